use Rattle.std.proofs.Common.{flat_map, ap, ◌∙◌}
use Rattle.std.proofs.lemmas.Result.{err_from_is_err_and}
use Rattle.chunk_tables.specs.View.{chunk_of}
use Rattle.renamer.specs.State.{chunk_in}
use Rattle.deconflict_chunk_symbols.specs.Run.{used_of}
use Rattle.deconflict_chunk_symbols.proofs.Turns.{as_seen, turn, stop}
use Rattle.deconflict_chunk_symbols.proofs.externals.name_used_of_each.Goals as goal

pub returns-in_err-name_used_of : goal.returns-in_err-name_used_of
returns-in_err-name_used_of c =
    let p = err_from_is_err_and c.from_residual.result c.from_residual.ensures.1 in
    let items = c.deref-external-items in
    let list = items.ensures.value ∙ ap (λ k. (chunk_of k).direct) c.chunk.ensures in
    let stopped = stop used_of items.result.now c.loop-external.invariant _ c.loop-external-test.true c.in_err-name_used_of.ensures in
    rw (p.1, p.2) (as_seen _ (ap (flat_map (used_of (chunk_in c.args.renamer.now))) list) stopped)

pub loop-external-preserved : goal.loop-external-preserved
loop-external-preserved c = turn used_of c.deref-external-items.result.now c.loop-external.invariant _ c.loop-external-test.true c.in_ok-name_used_of.ensures
