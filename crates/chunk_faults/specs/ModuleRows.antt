-- The tests of a chunk's format and of its modules. Assumes nothing.
use Rattle.std.specs.Prelude.{ℕ, Bool, false, not, ◌&&◌, ◌||◌, List, [], ◌∷◌, is_some, Some, None, Option, ◌==◌}
use Rattle.chunk_tables.specs.declared.parts.ModuleKind.{ModuleKind}
use Rattle.chunk_tables.specs.declared.parts.ModuleKind.TheVariants.{Normal, External}
use Rattle.chunk_tables.specs.Formats.{of_code}
use Rattle.chunk_tables.specs.Lists.{maybe}
use Rattle.chunk_tables.specs.Model.{Module, Chunk}
use Rattle.chunk_faults.specs.Numbers.{is_module, strays}
use Rattle.chunk_faults.specs.Tests.{Test, each_row}

abbrev pub format_tests : Chunk → List Test
format_tests c = (2, not (is_some (of_code c.format))) ∷ []

-- the namespace of an external module
abbrev pub namespace_of : ModuleKind → Option ℕ
namespace_of Normal = None
namespace_of (External n) = Some n

-- the runtime is no module
abbrev pub runtime_strays : Chunk → Bool
runtime_strays c = maybe c.runtime false (λ m. not (is_module c m))

-- a symbol that the module names is none of its own
abbrev pub own_stray : Module → Bool
own_stray M = strays M M.hot || (strays M M.this || (strays M M.default || strays M (namespace_of M.kind)))

-- the runtime's number belongs to the first record
abbrev pub module_tests : Chunk → ℕ → Module → List Test
module_tests c m M = (2, (m == 0) && runtime_strays c || own_stray M) ∷ []

-- where there is no module, the first record has the runtime's number alone
abbrev pub no_module_tests : Chunk → List Test
no_module_tests c = (2, runtime_strays c) ∷ []

abbrev pub module_rows : Chunk → List Module → List (List Test)
module_rows c [] = no_module_tests c ∷ []
module_rows c (M ∷ Ms) = each_row (module_tests c) (M ∷ Ms)
