-- Worked searches for the base `a`: what the rules compute. Assumes nothing.
use Rattle.std.specs.Prelude.{◌≡◌, ℕ, Bool, true, false, List, [], ◌∷◌, codes}
use Rattle.conflict_resolver.specs.Records.{Record}
use Rattle.conflict_resolver.specs.Rules.{Outcome, granted, refused, searched}

abbrev none : List ℕ → Bool → Bool
none c bare = false

abbrev only_bare : List ℕ → Bool → Bool
only_bare c bare = bare

abbrev every : List ℕ → Bool → Bool
every c bare = true

abbrev a : List ℕ
a = codes "a"

abbrev a$1 : List ℕ
a$1 = codes "a$1"

abbrev a$2 : List ℕ
a$2 = codes "a$2"

abbrev a$3 : List ℕ
a$3 = codes "a$3"

abbrev a$5 : List ℕ
a$5 = codes "a$5"

abbrev a$9999 : List ℕ
a$9999 = codes "a$9999"

-- a record
abbrev on : List ℕ → ℕ → Record
on c n = record { name = c; counter = n }

-- the search for `a` in a memory of nine records
abbrev search_a : (List ℕ → Bool → Bool) → List Record → Outcome
search_a vetoes es = searched vetoes a 9 es

pub record Worked : Type 0 where
  pub empty : search_a none [] ≡ granted (on a 0 ∷ []) a 0
  pub conflict : search_a none (on a 0 ∷ []) ≡ granted (on a 1 ∷ on a$1 0 ∷ []) a$1 1
  pub jumps : search_a none (on a 0 ∷ on a$1 0 ∷ on a$2 0 ∷ []) ≡ granted (on a 1 ∷ on a$1 3 ∷ on a$2 1 ∷ on a$3 0 ∷ []) a$3 5
  pub counter : search_a none (on a 4 ∷ []) ≡ granted (on a 5 ∷ on a$5 0 ∷ []) a$5 1
  pub stale : search_a none (on a 4 ∷ on a$5 0 ∷ []) ≡ granted (on a 5 ∷ on a$5 1 ∷ on a$1 0 ∷ []) a$1 2
  pub bare_veto : search_a only_bare [] ≡ granted (on a$1 0 ∷ []) a$1 1
  pub bare_veto_taken : search_a only_bare (on a$1 0 ∷ []) ≡ granted (on a$1 2 ∷ on a$2 0 ∷ []) a$2 3
  pub last : search_a none (on a 9998 ∷ []) ≡ granted (on a 9999 ∷ on a$9999 0 ∷ []) a$9999 1
  pub over : search_a none (on a 9999 ∷ []) ≡ refused (on a 9999 ∷ []) 11
  pub too_long : search_a every (on a 5902 ∷ []) ≡ refused (on a 5903 ∷ []) 12
  pub limit_first : search_a every (on a 5903 ∷ []) ≡ refused (on a 5904 ∷ []) 11
  pub full : searched none a 1 (on a 0 ∷ []) ≡ refused (on a 0 ∷ []) 10
  pub no_name : searched none [] 9 (on a 0 ∷ []) ≡ refused (on a 0 ∷ []) 7
