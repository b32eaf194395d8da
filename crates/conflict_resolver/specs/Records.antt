-- Name records: a list of names, oldest first, each with its counter. Assumes nothing.
use Rattle.std.specs.Prelude.{◌≡◌, ℕ, ◌+◌, Bool, cond, List, [], ◌∷◌, ◌++◌, length, Some, None, Option, nat_lt}
use Rattle.std.specs.Str.{bytes_eq}

-- a name on record, and how far the search for its numbered forms has come
pub record Record : Type 0 where
  pub name : List ℕ
  pub counter : ℕ

-- the counter of c, where c is on record
unfoldable pub counter_of : List Record → List ℕ → Option ℕ
counter_of [] c = None
counter_of (e ∷ es) c = cond (bytes_eq e.name c) (Some e.counter) (counter_of es c)

-- the records after the counter of c was raised by 1
unfoldable pub raised : List Record → List ℕ → List Record
raised [] c = []
raised (e ∷ es) c = cond (bytes_eq e.name c) (record { name = e.name; counter = e.counter + 1 } ∷ es) (e ∷ raised es c)

-- the records after c was recorded with 0
abbrev pub recording : List Record → List ℕ → List Record
recording es c = es ++ record { name = c; counter = 0 } ∷ []

-- one record more can be made, where at most so many may be
abbrev pub has_free : ℕ → List Record → Bool
has_free most es = nat_lt (length es) most

-- no name is on record twice
unfoldable pub Apart : List Record → Type 0
Apart [] = Unit {0}
Apart (e ∷ es) = (counter_of es e.name ≡ None) × Apart es
