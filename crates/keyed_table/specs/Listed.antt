-- A listing of rows by their keys. Assumes nothing.
use Rattle.std.specs.Prelude.{◌≡◌, ℕ, Bool, false, List, map, length, take, drop}
use Rattle.std.specs.List.{AllAdjacentBelow}
use Rattle.std.specs.List.Sorted.{IsPermutation}
use Rattle.keys.specs.Order.{Rising}
use Rattle.keyed_table.specs.declared.slot.Entry.{Entry}

abbrev pub key_of : {K V : Type 0} → Entry K V → K
key_of e = e.key

-- none of the rows has a lower key than the one before it
abbrev pub Sorted : {X K : Type 0} → (X → K) → (K → K → Bool) → List X → Type 0
Sorted key under rows = AllAdjacentBelow (λ x y. under (key y) (key x) ≡ false) rows (length rows)

-- the first n places hold the rows, each once and from the lowest key to the highest; the other places are as they were
pub record Listed {X K : Type 0} (key : X → K) (under : K → K → Bool) (rows was is : List X) (n : ℕ) : Type 0 where
  pub count : n ≡ length rows
  pub shuffled : IsPermutation rows (take n is)
  pub rising : Rising under (map key (take n is))
  pub rest : drop n is ≡ drop n was
