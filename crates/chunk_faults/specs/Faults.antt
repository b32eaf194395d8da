-- Which of a chunk's faults comes first. Assumes nothing.
use Rattle.std.specs.Prelude.{◌≡◌, ℕ, ◌<◌, ◌≤◌, true, ◌⊎◌, List, Some, None, Option}
use Rattle.std.specs.List.{slice_get}
use Rattle.chunk_faults.specs.Tests.{Test}

-- a test with number n holds of row r in table t
pub record Fault (ts : List (List (List Test))) (t r n : ℕ) : Type 0 where
  pub rows : List (List Test)
  pub tests : List Test
  pub k : ℕ
  pub table : slice_get ts t ≡ Some rows
  pub row : slice_get rows r ≡ Some tests
  pub holds : slice_get tests k ≡ Some (n, true)

-- (t, r, n) comes no later than (u, s, m): by tables first, then by rows, then by numbers
abbrev pub NotAfter : ℕ → ℕ → ℕ → ℕ → ℕ → ℕ → Type 0
NotAfter t r n u s m = (t < u) ⊎ ((t ≡ u) × ((r < s) ⊎ ((r ≡ s) × (n ≤ m))))

-- number n is that of a fault before which no other comes
pub record LeastFault (ts : List (List (List Test))) (n : ℕ) : Type 0 where
  pub t : ℕ
  pub r : ℕ
  pub fault : Fault ts t r n
  pub first : (u s m : ℕ) → Fault ts u s m → NotAfter t r n u s m

-- a verdict with a number tells the fault that comes first, and one without a number says that there is none
abbrev pub Judged : List (List (List Test)) → Option ℕ → Type 0
Judged ts None = (t r n : ℕ) → Fault ts t r n → ⊥
Judged ts (Some n) = LeastFault ts n
