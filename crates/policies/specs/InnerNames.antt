-- The inner names of a chunk: those that are bound below its top level. Assumes nothing.
use Rattle.std.specs.Prelude.{ℕ, Bool, cond, not, ◌&&◌, ◌||◌, List, [], ◌∷◌, ◌==◌}
use Rattle.std.specs.List.{flat_map, list_any, slice_get}
use Rattle.std.specs.Str.{bytes_eq}
use Rattle.chunk_tables.specs.Lists.{maybe}
use Rattle.chunk_tables.specs.Model.{Name, Symbol, Module, Chunk}

-- the symbol stands outside the root, or it is bound and its module is wrapped; facades are created in a root, but never
-- bound there
abbrev pub is_inner_name : Module → Symbol → Bool
is_inner_name M y = not (y.scope == 0) || (y.bound && M.wrapped)

-- the name of a symbol where it is an inner one, else none
abbrev pub symbol_names : Module → Symbol → List Name
symbol_names M y = cond (is_inner_name M y) (y.name ∷ []) []

-- the inner names of a module
abbrev pub module_names : Module → List Name
module_names M = flat_map (symbol_names M) M.symbols

-- the same of the module with this number, if there is one
abbrev pub member_names : Chunk → ℕ → List Name
member_names c m = maybe (slice_get c.modules m) [] module_names

-- the inner names of the chunk modules
abbrev pub inner_names : Chunk → List Name
inner_names c = flat_map (member_names c) c.members

-- some chunk module has an inner symbol of this name
abbrev pub inner_name : Chunk → List ℕ → Bool
inner_name c n = list_any (λ x. bytes_eq x n) (inner_names c)
