use Rattle.std.proofs.Common.{◌<◌, ◌∙◌, subst, sym}
use Rattle.std.proofs.lemmas.List.{length-map}
use Rattle.std.proofs.lemmas.Result.{err_from_is_err_and}
use Rattle.chunk_tables.specs.View.{other_of}
use Rattle.deconflict_chunk_symbols.proofs.Drawings.{draws_next, draws_no_more}
use Rattle.deconflict_chunk_symbols.proofs.other_chunks.create_require_names.Goals as goal

pub returns-in_err-create_require_name : goal.returns-in_err-create_require_name
returns-in_err-create_require_name c =
    let others = c.args.renamer.now.chunk.now.chunk.other_chunks in
    let p = err_from_is_err_and c.from_residual.result c.from_residual.ensures.1 in
    let l = subst (λ n. c.loop-place.place < n) (others.ok.0 ∙ sym (length-map others.items other_of)) (rw (sym c.chunk.ensures, sym c.len-place-end.ensures) c.loop-place-test.true) in
    let drawn = c.in_err-create_require_name.ensures in
    rw (p.1, p.2) (draws_no_more c.loop-place.invariant l drawn.rules drawn.stays)

pub loop-place-preserved : goal.loop-place-preserved
loop-place-preserved c =
    let others = c.args.renamer.now.chunk.now.chunk.other_chunks in
    let l = subst (λ n. c.loop-place.place < n) (others.ok.0 ∙ sym (length-map others.items other_of)) (rw (sym c.chunk.ensures, sym c.len-place-end.ensures) c.loop-place-test.true) in
    let drawn = c.in_ok-create_require_name.ensures in
    draws_next c.loop-place.invariant l c.in_ok-create_require_name.field-0 drawn.rules drawn.stays
