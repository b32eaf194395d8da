use Rattle.std.proofs.Common.{map, flat_map, ap, ◌∙◌}
use Rattle.std.proofs.lemmas.Result.{err_from_is_err_and}
use Rattle.chunk_tables.specs.View.{other_of, chunk_of}
use Rattle.renamer.specs.State.{chunk_in}
use Rattle.deconflict_chunk_symbols.specs.Run.{by_kind, imported_from}
use Rattle.deconflict_chunk_symbols.proofs.Turns.{as_seen, turn_viewed, stop_viewed, done_viewed}
use Rattle.deconflict_chunk_symbols.proofs.other_chunks.name_imports.Goals as goal

pub returns-in_err-name_imported : goal.returns-in_err-name_imported
returns-in_err-name_imported c =
    let p = err_from_is_err_and c.from_residual.result c.from_residual.ensures.1 in
    let items = c.deref-other-items in
    let list = ap (map other_of) items.ensures.value ∙ ap (λ k. (chunk_of k).others) c.chunk.ensures in
    let here = as_seen (imported_from (chunk_in c.loop-other.renamer) (other_of c.other-item.result)) (ap (flat_map (by_kind (chunk_in c.loop-other.renamer))) c.deref.ensures.value) c.in_err-name_imported.ensures in
    let stopped = stop_viewed other_of imported_from items.result.now c.loop-other.invariant c.other-item.result c.loop-other-test.true c.other-item.is here in
    rw (p.1, p.2) (as_seen _ (ap (flat_map (imported_from (chunk_in c.args.renamer.now))) list) stopped)

pub loop-other-preserved : goal.loop-other-preserved
loop-other-preserved c =
    let here = as_seen (imported_from (chunk_in c.loop-other.renamer) (other_of c.other-item.result)) (ap (flat_map (by_kind (chunk_in c.loop-other.renamer))) c.deref.ensures.value) c.in_ok-name_imported.ensures in
    turn_viewed other_of imported_from c.deref-other-items.result.now c.loop-other.invariant c.other-item.result c.loop-other-test.true c.other-item.is here

pub returns : goal.returns
returns c =
    let items = c.deref-other-items in
    let list = ap (map other_of) items.ensures.value ∙ ap (λ k. (chunk_of k).others) c.chunk.ensures in
    let over = done_viewed other_of imported_from items.result.now c.loop-other.invariant c.loop-other-test.false in
    as_seen _ (ap (flat_map (imported_from (chunk_in c.args.renamer.now))) list) over
