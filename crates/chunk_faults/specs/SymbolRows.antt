-- The tests of a symbol. Assumes nothing.
use Rattle.std.specs.Prelude.{ℕ, Bool, false, cond, not, ◌&&◌, ◌||◌, List, [], ◌∷◌, take, is_some, ◌==◌}
use Rattle.keys.specs.declared.refs.SymbolRef.{SymbolRef}
use Rattle.std.specs.List.{list_any}
use Rattle.names.specs.Bases.{is_base}
use Rattle.chunk_tables.specs.Bindings.{binds_in, root_import}
use Rattle.chunk_tables.specs.Kinds.{is_normal}
use Rattle.chunk_tables.specs.Links.{link_of, alias_of, canonical, end_after}
use Rattle.chunk_tables.specs.Lists.{maybe}
use Rattle.chunk_tables.specs.Model.{Symbol, Module, Chunk}
use Rattle.chunk_faults.specs.Numbers.{is_scope, dangles}
use Rattle.chunk_faults.specs.Tests.{Test}

-- the scope, the link or the alias is no row
abbrev pub symbol_strays : Chunk → Module → Symbol → Bool
symbol_strays c M y = not (is_scope M y.scope) || (dangles c y.link || dangles c y.alias)

-- an earlier symbol is a binding of the same name in the same scope
abbrev pub clashes : Module → ℕ → Symbol → Bool
clashes M i y = y.bound && list_any (binds_in y.scope y.name) (take i M.symbols)

-- a binding of an external module, or a facade outside a root
abbrev pub misplaced : Module → Symbol → Bool
misplaced M y = cond y.bound (not (is_normal M.kind)) (not (y.scope == 0))

-- the chain of links from a symbol does not end: after as many links as a chunk has symbols at most there is one more
abbrev pub endless : Chunk → SymbolRef → Bool
endless c q = is_some (link_of c (canonical c q))

-- the symbol's own chain of links, of which its link is the first, goes in a circle
abbrev pub circles : Chunk → Symbol → Bool
circles c y = maybe y.link false (λ l. is_some (link_of c (end_after c l)))

-- the alias leads to a symbol that has an alias
abbrev pub doubly_aliased : Chunk → Symbol → Bool
doubly_aliased c y = maybe y.alias false (λ a. not (endless c a) && is_some (alias_of c (canonical c a)))

-- a symbol that is printed as another one
abbrev pub elsewhere : Symbol → Bool
elsewhere y = is_some y.link || is_some y.alias

-- a binding that is printed as another symbol, and is no named import in the root
abbrev pub stray_import : Module → ℕ → Symbol → Bool
stray_import M i y = y.bound && (elsewhere y && not (root_import M i))

abbrev pub symbol_tests : Chunk → Module → ℕ → Symbol → List Test
symbol_tests c M i y =
    (2, symbol_strays c M y) ∷ (4, clashes M i y || misplaced M y)
    ∷ (5, circles c y || (doubly_aliased c y || stray_import M i y)) ∷ (7, not (is_base y.name)) ∷ []
