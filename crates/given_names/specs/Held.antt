-- The names that symbols were given, as plain lists. Assumes nothing.
use Rattle.std.specs.Prelude.{◌≡◌, ℕ, ◌≤◌, true, cond, List, map, length, is_some, None}
use Rattle.std.specs.List.{All}
use Rattle.names.specs.Spelt.{spelt}
use Rattle.names.specs.declared.name.Name.{Name}
use Rattle.keys.specs.declared.refs.SymbolRef.{SymbolRef}
use Rattle.keyed_table.specs.Contents.{room}
use Rattle.keyed_table.specs.declared.slot.Entry.{Entry}
use Rattle.chunk_tables.specs.Links.{symbol_at}
use Rattle.chunk_tables.specs.Model.{Name as Text, Chunk}
use Rattle.session_rules.specs.Session.{Given, name_of}
use Rattle.session_rules.specs.Rules.{to_symbol}
use Rattle.given_names.specs.declared.GivenNames.{GivenNames}

-- an entry, as a given name
abbrev pub given_of : Entry SymbolRef Name → Given
given_of e = record { symbol = e.key; name = spelt e.value }

-- the symbols with their names, in the order in which they were named
abbrev pub entries_of : GivenNames → List (Entry SymbolRef Name)
entries_of g = g.names.entries

-- the given names, in that order
abbrev pub given_in : GivenNames → List Given
given_in g = map given_of (entries_of g)

-- how many symbols there is room for, in all
abbrev pub room_for : GivenNames → ℕ
room_for g = room g.names

-- each symbol that has a name is a symbol of the chunk
abbrev pub OfChunk : Chunk → List Given → Type 0
OfChunk c gs = All (λ g. is_some (symbol_at c g.symbol) ≡ true) gs

-- a name given to a symbol: the symbol keeps the one that it has, or else has this one, behind the others
abbrev pub naming : List Given → SymbolRef → Text → List Given
naming gs q n = cond (is_some (name_of gs q)) gs (to_symbol q n gs)

-- a symbol has no name, and there is no place for one
abbrev pub NoPlace : GivenNames → SymbolRef → Type 0
NoPlace g q = (name_of (given_in g) q ≡ None) × (room_for g ≤ length (given_in g))
