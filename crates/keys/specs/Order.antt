-- A strict total order of keys, and lists of keys that ascend. Assumes nothing.
use Rattle.std.specs.Prelude.{◌≡◌, Bool, true, false, List, length}
use Rattle.std.specs.List.{AllAdjacentBelow}

-- of two different keys just one is below the other, and what is below a key is below all that are above it
pub record Strict {K : Type 0} (under : K → K → Bool) : Type 0 where
  pub irrefl : (x : K) → under x x ≡ false
  pub trans : (x y z : K) → under x y ≡ true → under y z ≡ true → under x z ≡ true
  pub total : (x y : K) → under x y ≡ false → under y x ≡ false → x ≡ y

-- the keys rise, and no two are equal
abbrev pub Rising : {K : Type 0} → (K → K → Bool) → List K → Type 0
Rising under ks = AllAdjacentBelow (λ x y. under x y ≡ true) ks (length ks)
