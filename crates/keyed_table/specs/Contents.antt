-- What a table holds. Assumes nothing.
use Rattle.std.specs.Prelude.{ℕ, Bool, ◌||◌, List, length, is_some, nat_lt}
use Rattle.keyed_table.specs.Model.{lookup}
use Rattle.keyed_table.specs.declared.slot.Entry.{Entry}
use Rattle.keyed_table.specs.declared.slot.Slot.{Slot}

-- the entries, oldest key first, and all slots of the memory with what they hold
pub record Contents (K V : Type 0) : Type 0 where
  pub entries : List (Entry K V)
  pub memory : List (Slot K V)

module _ {K V : Type 0} where
  -- for how many entries there is room in all
  abbrev pub room : Contents K V → ℕ
  room t = length t.memory

  -- whether a value can be put under the key: it has a place already, or a slot is free
  abbrev pub takes : (K → K → Bool) → Contents K V → K → Bool
  takes alike t k = is_some (lookup alike t.entries k) || nat_lt (length t.entries) (room t)
