use Rattle.std.proofs.Common.{ap, refl}
use Rattle.std.specs.List.{flat_map}
use Rattle.std.proofs.lemmas.Result.{err_from_is_err_and}
use Rattle.chunk_tables.specs.View.{chunk_of}
use Rattle.policies.specs.InnerNames.{member_names}
use Rattle.policies.proofs.Notes.{unnoted_more}
use Rattle.policies.proofs.inner_names.filling.note_chunk.Goals as goal

pub returns-in_err-note_member-clause-names : goal.returns-in_err-note_member-clause-names
returns-in_err-note_member-clause-names c =
    let f = member_names (chunk_of c.args.chunk.now) in
    let p = err_from_is_err_and c.from_residual.result c.from_residual.ensures.1 in
    rw (p.1, p.2) (unnoted_more f c.deref-number-items.result.now c.loop-number.number-index 0 _ c.loop-number-test.true refl c.loop-number.invariant.noted _ _ _ (ap (flat_map f) c.deref-number-items.ensures.value) (rw (← c.loop-number.invariant.room) c.in_err-note_member.ensures.names))
