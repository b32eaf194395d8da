-- What a table of symbols has to do with its chunk. Assumes nothing.
use Rattle.std.specs.Prelude.{◌≡◌, ◌≤◌, true, List, length, is_some}
use Rattle.std.specs.List.{All}
use Rattle.keys.specs.declared.refs.SymbolRef.{SymbolRef}
use Rattle.keyed_table.specs.Model.{Distinct}
use Rattle.keyed_table.specs.declared.slot.Entry.{Entry}
use Rattle.chunk_tables.specs.Links.{symbol_at}
use Rattle.chunk_tables.specs.Model.{Chunk}
use Rattle.chunk_tables.specs.Limits.{symbol_count}

-- each key is a symbol of the chunk
abbrev pub NamesSymbols : {V : Type 0} → Chunk → List (Entry SymbolRef V) → Type 0
NamesSymbols c es = All (λ e. is_some (symbol_at c e.key) ≡ true) es

-- a table whose keys are symbols of a chunk has no more entries than the chunk has symbols
abbrev pub FitsTheSymbols : Type 0 → Type 0
FitsTheSymbols V = (c : Chunk) (es : List (Entry SymbolRef V)) → Distinct es → NamesSymbols c es → length es ≤ symbol_count c
