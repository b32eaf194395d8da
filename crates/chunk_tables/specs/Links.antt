-- Links and aliases of symbols. Assumes nothing.
use Rattle.std.specs.Prelude.{ℕ, zero, suc, None, Option}
use Rattle.std.specs.List.{slice_get}
use Rattle.keys.specs.declared.refs.SymbolRef.{SymbolRef}
use Rattle.chunk_tables.specs.Lists.{maybe}
use Rattle.chunk_tables.specs.Model.{Symbol, Chunk}

-- the symbol that two numbers name; nothing where one of them leads nowhere
abbrev pub symbol_at : Chunk → SymbolRef → Option Symbol
symbol_at c q = maybe (slice_get c.modules q.owner) None (λ M. slice_get M.symbols q.symbol)

abbrev pub link_of : Chunk → SymbolRef → Option SymbolRef
link_of c q = maybe (symbol_at c q) None (λ y. y.link)

abbrev pub alias_of : Chunk → SymbolRef → Option SymbolRef
alias_of c q = maybe (symbol_at c q) None (λ y. y.alias)

-- what is reached by links, and after n of them in any case
abbrev pub follow : Chunk → ℕ → SymbolRef → SymbolRef
follow c zero q = q
follow c (suc n) q = maybe (link_of c q) q (follow c n)

-- the symbol that stands for all that are linked to it. A chunk has at most 16,384 symbols, so whatever has more links than
-- that behind it is on a circle
unfoldable pub canonical : Chunk → SymbolRef → SymbolRef
canonical c q = follow c 16384 q

-- the same of a symbol whose link is l
unfoldable pub end_after : Chunk → SymbolRef → SymbolRef
end_after c l = follow c 16383 l

-- the symbol whose name is printed: an alias stands for the variable of which the symbol is a property
abbrev pub printed : Chunk → SymbolRef → SymbolRef
printed c q = maybe (alias_of c (canonical c q)) (canonical c q) (canonical c)
