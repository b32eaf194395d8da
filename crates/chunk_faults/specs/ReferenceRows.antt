-- The tests of a reference. Assumes nothing.
use Rattle.std.specs.Prelude.{Bool, false, not, ◌&&◌, ◌||◌, List, [], ◌∷◌, is_some, nat_eq}
use Rattle.std.specs.List.{slice_get}
use Rattle.chunk_tables.specs.declared.parts.Reference.{Reference}
use Rattle.chunk_tables.specs.Bindings.{nearest, root_import}
use Rattle.chunk_tables.specs.Lists.{maybe}
use Rattle.chunk_tables.specs.Model.{Symbol, Module, Chunk}
use Rattle.chunk_faults.specs.Numbers.{is_scope, is_symbol, dangles}
use Rattle.chunk_faults.specs.SymbolRows.{elsewhere}
use Rattle.chunk_faults.specs.Tests.{Test}

-- the scope, the target or the resolved symbol is no row
abbrev pub reference_strays : Chunk → Module → Reference → Bool
reference_strays c M r = not (is_scope M r.scope) || (not (is_symbol M r.target) || dangles c r.resolved)

-- a lookup of the name of the target, which is y, does not find the target from here
abbrev pub misses_target : Module → Reference → Symbol → Bool
misses_target M r y = not y.bound || not (maybe (nearest M r.scope y.name) false (nat_eq r.target))

-- a resolved member is taken from a symbol that was not imported by name into the root, or that a wrapper prints as itself
abbrev pub stray_member : Module → Reference → Symbol → Bool
stray_member M r y = is_some r.resolved && (not (root_import M r.target) || (M.wrapped && not (elsewhere y)))

-- what the name at the reference means is not what the row says; a missing target is told by another number
abbrev pub bad_reference : Module → Reference → Bool
bad_reference M r = maybe (slice_get M.symbols r.target) false (λ y. misses_target M r y || stray_member M r y)

abbrev pub reference_tests : Chunk → Module → Reference → List Test
reference_tests c M r = (2, reference_strays c M r) ∷ (6, bad_reference M r) ∷ []
