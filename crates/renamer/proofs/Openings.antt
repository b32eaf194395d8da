-- What reserving from an empty record leaves. Assumes nothing.
use Rattle.std.proofs.Common.{◌≡◌, ℕ, [], min, Some, Ok, Err, Result, ap, sym, subst, ◌∙◌, inl, inr, eqb}
use mathlib.Core.Logic.{∥∥₁_elim}
use Rattle.std.proofs.lemmas.Bool.{cases_eq}
use Rattle.names.specs.Refusals.{number_of}
use Rattle.names.specs.declared.refusal.Refusal.{Refusal}
use Rattle.chunk_tables.specs.declared.format.Format.{Format}
use Rattle.chunk_tables.specs.Formats.{of_code}
use Rattle.chunk_tables.specs.Model.{Chunk}
use Rattle.chunk_faults.specs.Sound.{Sound}
use Rattle.conflict_resolver.specs.Answers.{settled}
use Rattle.conflict_resolver.specs.Held.{held, room, slots as slots_of}
use Rattle.conflict_resolver.specs.Rules.{declined}
use Rattle.conflict_resolver.specs.declared.resolver.ConflictResolver.{ConflictResolver}
use Rattle.reservations.proofs.Ends.{sound_refused_where_full}
use Rattle.reservations.specs.Reserved.{reserved_names}
use Rattle.reservations.specs.Reserving.{reserve_each, Reserves}
use Rattle.renamer.specs.Opening.{reservations, OpensRecords, Exceeds}

module _ (f : Format) (c : Chunk) (coded : of_code c.format ≡ Some f) (memory : ℕ) (r s : ConflictResolver) (empty : held r ≡ []) (most : room r ≡ min c.records memory) where
  told : (o : Result (Unit {0}) Refusal) → Reserves r s o (reserved_names f c) → settled o (held s) ≡ reserve_each (min c.records memory) [] (reserved_names f c)
  told o h = h.rules ∙ ap (λ n. reserve_each n (held r) (reserved_names f c)) most ∙ ap (λ es. reserve_each (min c.records memory) es (reserved_names f c)) empty

  pub opens : slots_of r ≡ memory → Reserves r s (Ok tt) (reserved_names f c) → OpensRecords c memory s
  unfolding reservations
  opens m h = record { records = record { format = f; coded = coded; reserved = told (Ok tt) h }; most = h.room ∙ most; slots = h.slots ∙ m }

  -- the number is 10, as the tables are sound
  pub exceeds : ∥ Sound c ∥₁ → (e : Refusal) → Reserves r s (Err e) (reserved_names f c) → Exceeds c memory
  unfolding reservations
  exceeds sound e h =
      let n = told (Err e) h in
      elim (cases_eq (number_of e) 10) [
        | inl ten ↦ record { format = f; coded = coded; so_far = held s; refused = ap (declined (held s)) (sym ten) ∙ n }
        | inr other ↦ absurd (∥∥₁_elim sound (hlevel) (λ t. other (sound_refused_where_full (min c.records memory) f c (held s) (number_of e) t (sym n)).0))
      ]
