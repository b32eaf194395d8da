-- Tests of the records of a table. Assumes nothing.
use Rattle.std.specs.Prelude.{ℕ, zero, suc, Bool, cond, List, [], ◌∷◌, Some, None, Ok, Err, Option, Result}
use Rattle.std.specs.List.{slice_get}
use Rattle.names.specs.Refusals.{number_of}
use Rattle.names.specs.declared.refusal.Refusal.{Refusal}

-- the number of a fault, and whether the record has it
abbrev pub Test : Type 0
Test = ℕ × Bool

-- the smallest number of a fault that a record has, where its tests stand by ascending numbers
abbrev pub least : List Test → Option ℕ
least [] = None
least (t ∷ ts) = cond t.1 (Some t.0) (least ts)

-- f of each row and its number, where the first row has number k
abbrev pub each_from : {A B : Type 0} → ℕ → (ℕ → A → B) → List A → List B
each_from k f [] = []
each_from k f (x ∷ xs) = f k x ∷ each_from (suc k) f xs

abbrev pub each_row : {A B : Type 0} → (ℕ → A → B) → List A → List B
each_row f xs = each_from 0 f xs

-- the row before the one with number k
abbrev pub row_before : {A : Type 0} → List A → ℕ → Option A
row_before xs zero = None
row_before xs (suc k) = slice_get xs k

-- what a check's answer tells: the number of a refusal, or none
abbrev pub told : {A : Type 0} → Result A Refusal → Option ℕ
told (Ok a) = None
told (Err e) = Some (number_of e)
