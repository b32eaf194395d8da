-- The numbered forms of a base. Assumes nothing.
use Rattle.std.specs.Prelude.{◌≡◌, ℕ, ◌≤◌, List, ◌∷◌, ◌++◌, decimal}

-- the base with a dollar sign and the digits of k behind it
abbrev pub form : List ℕ → ℕ → List ℕ
form b k = b ++ 36 ∷ decimal k

-- k is a number of one to four digits, other than zero
abbrev pub Suffix : ℕ → Type 0
Suffix k = (1 ≤ k) × (k ≤ 9999)

-- c is the form of b and k, and whoever reads c as a form finds just these two
pub record FormOf (b : List ℕ) (k : ℕ) (c : List ℕ) : Type 0 where
  pub spells : c ≡ form b k
  pub base : (d : List ℕ) (j : ℕ) → Suffix j → c ≡ form d j → d ≡ b
  pub number : (d : List ℕ) (j : ℕ) → Suffix j → c ≡ form d j → j ≡ k
