-- What scopes bind. Assumes nothing.
use Rattle.std.specs.Prelude.{ℕ, Bool, false, ◌&&◌, Option, ◌==◌, nat_eq}
use Rattle.std.specs.Str.{bytes_eq}
use Rattle.std.specs.List.{list_any, slice_get}
use Rattle.chunk_tables.specs.Lists.{maybe, place, first_found}
use Rattle.chunk_tables.specs.Model.{Name, Symbol, Module}
use Rattle.chunk_tables.specs.Scopes.{enclosing}

-- a symbol is a binding of a name: it has the name, and is no facade
abbrev pub binds : Name → Symbol → Bool
binds n y = y.bound && bytes_eq y.name n

-- a symbol is a binding of a name in a scope
abbrev pub binds_in : ℕ → Name → Symbol → Bool
binds_in s n y = y.scope == s && binds n y

-- the symbol that a scope binds under a name: the first one
abbrev pub bound_in : Module → ℕ → Name → Option ℕ
bound_in M s n = place (binds_in s n) M.symbols

-- what a reference in a scope means by a name: outward, the first scope that binds it decides
abbrev pub nearest : Module → ℕ → Name → Option ℕ
nearest M s n = first_found (λ t. bound_in M t n) (enclosing M s)

-- whether a symbol of the module is a binding of the name, in whatever scope
abbrev pub bound_anywhere : Module → Name → Bool
bound_anywhere M n = list_any (binds n) M.symbols

-- whether a symbol is declared by an import of the module
abbrev pub root_import : Module → ℕ → Bool
root_import M i = maybe (slice_get M.symbols i) false (λ y. (y.scope == 0) && list_any (nat_eq i) M.imports)
