-- What the fields of a table say of its entries. Assumes nothing.
use Rattle.std.proofs.Common.{◌≡◌, ℕ, ◌<◌, length, get_or, sym, ap, ◌∙◌, arith}
use Rattle.std.specs.List.{slice_get}
use Rattle.std.proofs.lemmas.Option.{slice_get-get_or}
use Rattle.keyed_table.specs.Links.{Wired, held}
use Rattle.keyed_table.specs.declared.slot.Slot.{Slot}
use Rattle.keyed_table.proofs.Held.{shows_held, some_of}
use Rattle.std.proofs.Common.{List}

module _ {K V : Type 0} {hashed : K → ℕ} (slots : List (Slot K V)) (len : ℕ) (w : Wired hashed slots len) where
  pub length_held : length (held slots len) ≡ len
  length_held = (shows_held slots len w.within w.full).0

  -- what a slot below the length holds is the entry of its place
  pub nth_held : (i : ℕ) (s : Slot K V) → i < len → s ≡ get_or slots i s → s.entry ≡ slice_get (held slots len) i
  nth_held i s l is =
      let n = length_held in
      let e = (some_of (get_or slots i s).entry (w.full i s l)).0 in
      ap (λ x. x.entry) is ∙ (shows_held slots len w.within w.full).1 i s e l ∙ sym (slice_get-get_or (held slots len) i e (omega arith))
