-- What holds of names that are reserved one after another, before anything is on record. Assumes nothing.
use Rattle.std.specs.Prelude.{◌≡◌, ℕ, true, false, cond, ◌⊎◌, List, [], length, is_some, Some, None}
use Rattle.names.specs.Bases.{is_base}
use Rattle.chunk_faults.specs.Sound.{Sound}
use Rattle.chunk_tables.specs.Formats.{of_code}
use Rattle.chunk_tables.specs.Model.{Chunk}
use Rattle.chunk_tables.specs.declared.format.Format.{Format}
use Rattle.conflict_resolver.specs.Records.{Record, counter_of, Apart}
use Rattle.conflict_resolver.specs.Rules.{made, declined}
use Rattle.reservations.specs.Reserved.{among, is_reserved, reserved_names}
use Rattle.reservations.specs.Reserving.{reserve_each}

-- where all are reserved, they are on record with counter 0, each once, and nothing else is
abbrev pub ReservesTheNames : Type 0
ReservesTheNames = (most : ℕ) (ns : List (List ℕ)) (es : List Record) → reserve_each most [] ns ≡ made es
    → Apart es × ((n : List ℕ) → counter_of es n ≡ cond (among ns n) (Some 0) None)

-- they are refused because one of them is no base, or because as many names are on record as may be, and one of them is not
abbrev pub RefusedForCause : Type 0
RefusedForCause = (most : ℕ) (ns : List (List ℕ)) (es : List Record) (why : ℕ) → reserve_each most [] ns ≡ declined es why
    → ((why ≡ 7) × ((n : List ℕ) × (among ns n ≡ true) × (is_base n ≡ false)))
    ⊎ ((why ≡ 10) × (length es ≡ most) × ((n : List ℕ) × (among ns n ≡ true) × (counter_of es n ≡ None)))

-- so bases are refused in the second case only
abbrev pub BasesRefusedWhereFull : Type 0
BasesRefusedWhereFull = (most : ℕ) (ns : List (List ℕ)) (es : List Record) (why : ℕ) → ((n : List ℕ) → among ns n ≡ true → is_base n ≡ true)
    → reserve_each most [] ns ≡ declined es why
    → (why ≡ 10) × (length es ≡ most) × ((n : List ℕ) × (among ns n ≡ true) × (counter_of es n ≡ None))

-- so of a sound chunk, whose reserved names are bases, they are refused in that case only
abbrev pub SoundRefusedWhereFull : Type 0
SoundRefusedWhereFull = (most : ℕ) (f : Format) (c : Chunk) (es : List Record) (why : ℕ) → Sound c → reserve_each most [] (reserved_names f c) ≡ declined es why
    → (why ≡ 10) × (length es ≡ most) × ((n : List ℕ) × (among (reserved_names f c) n ≡ true) × (counter_of es n ≡ None))

-- so what is reserved in a chunk is on record once its reserved names are
abbrev pub ReservedAreOnRecord : Type 0
ReservedAreOnRecord = (most : ℕ) (f : Format) (c : Chunk) (es : List Record) → of_code c.format ≡ Some f → reserve_each most [] (reserved_names f c) ≡ made es
    → (n : List ℕ) → is_reserved c n ≡ true → is_some (counter_of es n) ≡ true
