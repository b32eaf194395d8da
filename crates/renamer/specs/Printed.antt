-- The name that a symbol is printed as. Assumes nothing.
use Rattle.std.specs.Prelude.{List, None, Option}
use Rattle.keys.specs.declared.refs.SymbolRef.{SymbolRef}
use Rattle.chunk_tables.specs.Links.{symbol_at, printed}
use Rattle.chunk_tables.specs.Lists.{maybe}
use Rattle.chunk_tables.specs.Model.{Name, Chunk}
use Rattle.session_rules.specs.Session.{Given, name_of}

-- the name that its printed symbol was given; absent where there is no such symbol, or no such name
abbrev pub printed_name : Chunk → List Given → SymbolRef → Option Name
printed_name c gs q = maybe (symbol_at c q) None (λ y. name_of gs (printed c q))
