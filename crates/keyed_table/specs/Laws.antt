-- What look-ups and changes have to do with one another. Assumes nothing.
use Rattle.std.specs.Prelude.{◌≡◌, Bool, List, Some, ◌≢◌}
use Rattle.keyed_table.specs.Model.{lookup, put}
use Rattle.keyed_table.specs.declared.slot.Entry.{Entry}

-- the two laws of a map
pub record Laws (K V : Type 0) (alike : K → K → Bool) : Type 0 where
  -- the key that was set has its value, and each other key has the value that it had
  pub itself : (es : List (Entry K V)) (k : K) (v : V) → lookup alike (put alike es k v) k ≡ Some v
  pub others : (es : List (Entry K V)) (k q : K) (v : V) → (k ≢ q) → lookup alike (put alike es k v) q ≡ lookup alike es q
