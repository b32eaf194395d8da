-- The lines of an answer. Assumes nothing.
use Rattle.std.specs.Prelude.{ℕ, List, [], ◌∷◌, ◌++◌, codes, decimal}
use Rattle.names.specs.Refusals.{number_of, words_of}
use Rattle.names.specs.Spelt.{spelt}
use Rattle.names.specs.declared.name.Name.{Name}
use Rattle.names.specs.declared.refusal.Refusal.{Refusal}
use Rattle.keys.specs.declared.refs.ChunkIdx.{ChunkIdx}
use Rattle.keys.specs.declared.refs.SymbolRef.{SymbolRef}
use Rattle.keyed_table.specs.declared.slot.Entry.{Entry}
use Rattle.conflict_resolver.specs.declared.resolver.NameRecord.{NameRecord}

-- the text, and a line end behind it
abbrev pub line : List ℕ → List ℕ
line text = text ++ 10 ∷ []

-- the end of a document's answer
abbrev pub done_line : List ℕ
done_line = line (codes "done")

-- what is wrong with the line of this number
abbrev pub fault_line : ℕ → List ℕ → List ℕ
fault_line number words = line (codes "line " ++ decimal number ++ codes ": " ++ words)

-- a refusal, by number and words
abbrev pub refused_line : Refusal → List ℕ
refused_line r = line (codes "refused " ++ decimal (number_of r) ++ 32 ∷ words_of r)

-- the number of another chunk, and the name of its helper
abbrev pub helper_line : Entry ChunkIdx Name → List ℕ
helper_line row = line (codes "helper " ++ decimal row.key.0 ++ 32 ∷ spelt row.value)

-- the name of a symbol, by module and number
abbrev pub name_line : Entry SymbolRef Name → List ℕ
name_line row = line (codes "name " ++ decimal row.key.owner ++ 32 ∷ decimal row.key.symbol ++ 32 ∷ spelt row.value)

-- a name on record, and its counter
abbrev pub record_line : NameRecord → List ℕ
record_line row = line (codes "record " ++ spelt row.name ++ 32 ∷ decimal row.counter)
