-- The rows of the memory that hold records, and what callers see of them. Assumes nothing.
use Rattle.std.specs.Prelude.{ℕ, List, map}
use Rattle.names.specs.Spelt.{spelt}
use Rattle.names.specs.declared.name.Name.{Name}
use Rattle.keyed_table.specs.declared.slot.Entry.{Entry}
use Rattle.conflict_resolver.specs.Records.{Record, Apart}
use Rattle.conflict_resolver.specs.declared.resolver.NameRecord.{NameRecord}

-- a row of the memory, as a caller sees it
abbrev pub row_of : Entry Name ℕ → NameRecord
row_of e = record { name = e.key; counter = e.value }

abbrev pub name_of : NameRecord → Name
name_of r = r.name

-- such a row, as a record
abbrev pub record_of : NameRecord → Record
record_of r = record { name = spelt r.name; counter = r.counter }

-- the record in a row of the memory
abbrev pub record_in : Entry Name ℕ → Record
record_in e = record_of (row_of e)

-- no name is on record twice
abbrev pub Once : List (Entry Name ℕ) → Type 0
Once es = Apart (map record_in es)
