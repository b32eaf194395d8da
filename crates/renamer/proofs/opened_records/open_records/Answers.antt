use Rattle.std.proofs.Common.{rules, ◌≡◌, Some, vec_len, length, sym, ap, subst, ◌∙◌}
use Rattle.chunk_tables.specs.Formats.{of_code}
use Rattle.chunk_tables.specs.View.{chunk_of}
use Rattle.chunk_faults.specs.Sound.{Sound}
use Rattle.renamer.specs.Opening.{OpensRecords, Exceeds}
use Rattle.renamer.proofs.Openings.{opens, exceeds}
use Rattle.renamer.proofs.opened_records.open_records.Goals as goal

pub returns-in-Ok : goal.returns-in-Ok
returns-in-Ok c =
    let same = c.chunk-chunk.ensures.tables in
    let k = c.chunk-chunk.result.now in
    let coded = subst (λ t. of_code (chunk_of t).format ≡ Some c.format.result) (sym same) c.format.ensures in
    subst (λ t. OpensRecords (chunk_of t) (vec_len c.args.slots) c.reserve_names.new.to) same
    (opens c.format.result (chunk_of k) coded (vec_len c.args.slots) c.new-resolver.result c.reserve_names.new.to c.new-resolver.ensures.empty c.new-resolver.ensures.room c.new-resolver.ensures.slots c.in-Ok.ensures)

pub returns-in-Err : goal.returns-in-Err
returns-in-Err c =
    let same = c.chunk-chunk.ensures.tables in
    let k = c.chunk-chunk.result.now in
    let coded = subst (λ t. of_code (chunk_of t).format ≡ Some c.format.result) (sym same) c.format.ensures in
    let sound = subst (λ t. ∥ Sound (chunk_of t) ∥₁) (sym same) c.args.checked.now.sound in (
      subst (λ t. Exceeds (chunk_of t) (vec_len c.args.slots)) same
          (exceeds c.format.result (chunk_of k) coded (vec_len c.args.slots) c.new-resolver.result c.reserve_names.new.to c.new-resolver.ensures.empty c.new-resolver.ensures.room sound c.in-Err.field-0 c.in-Err.ensures),
      (c.emptied.ensures.0 ∙ (let l : vec_len c.into_slots.result ≡ length c.into_slots.result.items = search rules in l) ∙ ap length c.into_slots.ensures ∙ c.in-Err.ensures.slots ∙ c.new-resolver.ensures.slots, c.emptied.ensures.1),
    )
