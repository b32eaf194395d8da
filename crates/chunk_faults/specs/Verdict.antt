-- What the check of a chunk comes to, table by table. Assumes nothing.
use Rattle.std.specs.Prelude.{ℕ, Bool, List, [], ◌∷◌, map, Option}
use Rattle.std.specs.List.{flat_map}
use Rattle.chunk_tables.specs.Lists.{first_found}
use Rattle.chunk_tables.specs.Model.{Module, Chunk}
use Rattle.chunk_faults.specs.LimitRows.{limit_tests}
use Rattle.chunk_faults.specs.ModuleRows.{format_tests, module_rows}
use Rattle.chunk_faults.specs.ScopeRows.{scope_tests}
use Rattle.chunk_faults.specs.SymbolRows.{symbol_tests}
use Rattle.chunk_faults.specs.ReferenceRows.{reference_tests}
use Rattle.chunk_faults.specs.ListRows.{list_rows}
use Rattle.chunk_faults.specs.Tests.{Test, least, each_row}

-- the tests of each scope of a module, and so of its symbols and its references
abbrev pub scope_rows : Module → List (List Test)
scope_rows M = each_row (scope_tests M) M.parents

abbrev pub symbol_rows : Chunk → Module → List (List Test)
symbol_rows c M = each_row (symbol_tests c M) M.symbols

abbrev pub reference_rows : Chunk → Module → List (List Test)
reference_rows c M = map (reference_tests c M) M.references

-- the tests of every record of every table; a table is looked at after those that stand before it here. `short` tells
-- whether the memory is too small for the chunk
abbrev pub table_rows : Chunk → Bool → List (List (List Test))
table_rows c short =
    (limit_tests c short ∷ [])
    ∷ (format_tests c ∷ [])
    ∷ module_rows c c.modules
    ∷ flat_map scope_rows c.modules
    ∷ flat_map (symbol_rows c) c.modules
    ∷ flat_map (reference_rows c) c.modules
    ∷ list_rows c
    ∷ []

-- the number that is told, if there is one: tables come before records, and records before numbers
abbrev pub verdict : Chunk → Bool → Option ℕ
verdict c short = first_found (first_found least) (table_rows c short)
