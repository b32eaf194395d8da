-- Plain functions over lists and options. Assumes nothing.
use Rattle.std.specs.Prelude.{ℕ, suc, Bool, cond, List, [], ◌∷◌, Some, None, Option}

-- b where o is absent, else f of what it holds
abbrev pub maybe : {A B : Type 0} → Option A → B → (A → B) → B
maybe None b f = b
maybe (Some a) b f = f a

-- the number of the first row that passes the test, where the first row has number k
abbrev pub place_from : {A : Type 0} → ℕ → (A → Bool) → List A → Option ℕ
place_from k test [] = None
place_from k test (x ∷ xs) = cond (test x) (Some k) (place_from (suc k) test xs)

-- the number of the first row that passes the test
abbrev pub place : {A : Type 0} → (A → Bool) → List A → Option ℕ
place test xs = place_from 0 test xs

-- what f finds at the first element at which it finds something
abbrev pub first_found : {A B : Type 0} → (A → Option B) → List A → Option B
first_found f [] = None
first_found f (x ∷ xs) = maybe (f x) (first_found f xs) Some
