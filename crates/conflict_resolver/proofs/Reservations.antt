-- The ends of a reservation. Assumes nothing.
use Rattle.std.proofs.Common.{◌≡◌, ℕ, ◌<◌, ◌≤◌, Bool, true, false, List, length, is_some, Some, None, Option, refl, ap, arith}
use Rattle.std.proofs.lemmas.Bool.{ltb-true, ltb-false}
use Rattle.conflict_resolver.specs.Records.{Record, counter_of, recording, has_free}
use Rattle.conflict_resolver.specs.Rules.{Reservation, made, declined, reserved}
use Rattle.names.specs.Bases.{is_base}

pub none_from : {X : Type 0} (o : Option X) → is_some o ≡ false → o ≡ None
none_from (Some x) e = let z : ◌≡◌ {A = ℕ} 0 1 = cc in absurd (omega arith)
none_from None e = refl

module _ (slots : ℕ) (es : List Record) (c : List ℕ) where
  pub reserve_no_name : is_base c ≡ false → declined es 7 ≡ reserved slots es c
  unfolding reserved
  reserve_no_name h = rw (h, reserved)

  module _ (h : is_base c ≡ true) where
    pub reserve_recorded : is_some (counter_of es c) ≡ true → made es ≡ reserved slots es c
    unfolding reserved
    reserve_recorded e = rw (h, reserved) (on (counter_of es c) e)
      where
        on : (o : Option ℕ) → is_some o ≡ true → made es ≡ elim o [ Some n ↦ made es | None ↦ elim (has_free slots es) [ true ↦ made (recording es c) | false ↦ declined es 10 ] ]
        on (Some n) e = refl
        on None e = let z : ◌≡◌ {A = ℕ} 0 1 = cc in absurd (omega arith)

    pub reserve_full : counter_of es c ≡ None → has_free slots es ≡ false → declined es 10 ≡ reserved slots es c
    unfolding reserved
    reserve_full e l = rw (h, e, l, reserved)

    pub reserve_new : counter_of es c ≡ None → has_free slots es ≡ true → made (recording es c) ≡ reserved slots es c
    unfolding reserved
    reserve_new e l = rw (h, e, l, reserved)

-- how a reservation of c ends
pub data Ends (slots : ℕ) (es : List Record) (c : List ℕ) : Reservation → Type 0 where
  nameless : is_base c ≡ false → Ends slots es c (declined es 7)
  recorded : is_some (counter_of es c) ≡ true → Ends slots es c (made es)
  full : counter_of es c ≡ None → slots ≤ length es → Ends slots es c (declined es 10)
  new : counter_of es c ≡ None → length es < slots → Ends slots es c (made (recording es c))

pub ends : (slots : ℕ) (es : List Record) (c : List ℕ) → Ends slots es c (reserved slots es c)
unfolding reserved
ends slots es c = on (is_base c) (counter_of es c) (has_free slots es) refl refl refl
  where
    on : (named : Bool) (o : Option ℕ) (room : Bool) → is_base c ≡ named → counter_of es c ≡ o → has_free slots es ≡ room
        → Ends slots es c (elim named [ true ↦ elim o [ Some n ↦ made es | None ↦ elim room [ true ↦ made (recording es c) | false ↦ declined es 10 ] ] | false ↦ declined es 7 ])
    on false o room h e l = nameless h
    on true (Some n) room h e l = recorded (ap is_some e)
    on true None true h e l = new e (ltb-true (length es) slots l)
    on true None false h e l = full e (ltb-false (length es) slots l)
