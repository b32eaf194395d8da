-- The records as they are listed at the end of a document. Assumes nothing.
use Rattle.std.specs.Prelude.{◌≡◌, ℕ, List, ◌++◌, map, flat_map}
use Rattle.std.specs.List.Sorted.{IsPermutation}
use Rattle.std.specs.Global.{Vec}
use Rattle.keys.specs.Names.{name_under}
use Rattle.keys.specs.Order.{Rising}
use Rattle.conflict_resolver.specs.Rows.{name_of}
use Rattle.conflict_resolver.specs.declared.resolver.NameRecord.{NameRecord}
use Rattle.answer_lines.specs.Lines.{record_line}

-- the records stand behind what was there, a line each, from the lowest name to the highest
pub record Lists (records : List NameRecord) (was is : Vec ℕ) : Type 0 where
  pub listed : List NameRecord
  pub same : IsPermutation records listed
  pub rising : Rising name_under (map name_of listed)
  pub written : is.items ≡ was.items ++ flat_map record_line listed
