-- The records that a resolver holds. Assumes nothing.
use Rattle.std.specs.Prelude.{ℕ, List, map, length}
use Rattle.names.specs.declared.name.Name.{Name}
use Rattle.keyed_table.specs.declared.slot.Entry.{Entry}
use Rattle.conflict_resolver.specs.Records.{Record}
use Rattle.conflict_resolver.specs.Rows.{row_of, record_in}
use Rattle.conflict_resolver.specs.declared.resolver.NameRecord.{NameRecord}
use Rattle.conflict_resolver.specs.declared.resolver.ConflictResolver.{ConflictResolver}

-- the entries of the memory that are used, oldest first
abbrev pub entries_of : ConflictResolver → List (Entry Name ℕ)
entries_of r = r.used.entries

-- the same, as a caller sees them
abbrev pub rows : ConflictResolver → List NameRecord
rows r = map row_of (entries_of r)

-- the records, oldest first
abbrev pub held : ConflictResolver → List Record
held r = map record_in (entries_of r)

-- how many names may be on record
abbrev pub room : ConflictResolver → ℕ
room r = r.most

-- how many records the memory has, used and free
abbrev pub slots : ConflictResolver → ℕ
slots r = length r.used.memory
