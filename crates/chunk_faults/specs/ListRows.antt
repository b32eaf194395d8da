-- The tests of the entries of lists. Assumes nothing.
use Rattle.std.specs.Prelude.{ℕ, Bool, false, not, ◌||◌, ltb, List, [], ◌∷◌, map, take, is_some, nat_eq, nat_lt}
use Rattle.std.specs.List.{list_any, flat_map, slice_get}
use Rattle.keys.specs.declared.refs.SymbolRef.{SymbolRef}
use Rattle.names.specs.Bases.{is_base}
use Rattle.hints.specs.Hints.{hint}
use Rattle.chunk_tables.specs.declared.chunk.EntrySymbol.{EntrySymbol}
use Rattle.chunk_tables.specs.Bindings.{nearest}
use Rattle.chunk_tables.specs.Kinds.{is_normal}
use Rattle.chunk_tables.specs.Lists.{maybe}
use Rattle.chunk_tables.specs.Model.{Name, Module, Unresolved, Statement, OtherChunk, Chunk}
use Rattle.chunk_faults.specs.Numbers.{is_module, is_scope, is_symbol, missing}
use Rattle.chunk_faults.specs.Tests.{Test, each_row, row_before}

abbrev pub name_tests : Name → List Test
name_tests n = (7, not (is_base n)) ∷ []

-- an entry that names a module
abbrev pub module_entry : Chunk → ℕ → List Test
module_entry c m = (2, not (is_module c m)) ∷ []

-- an entry that names a symbol of its module
abbrev pub own_entry : Module → ℕ → List Test
own_entry M i = (2, not (is_symbol M i)) ∷ []

-- an entry that names a symbol of the chunk
abbrev pub symbol_entry : Chunk → SymbolRef → List Test
symbol_entry c q = (2, missing c q) ∷ []

-- a symbol that the entry refers to
abbrev pub entry_tests : Chunk → EntrySymbol → List Test
entry_tests c e = symbol_entry c e.symbol

-- module M runs before the predecessor of entry k among the chunk's modules
abbrev pub falls : Chunk → ℕ → Module → Bool
falls c k M = maybe (row_before c.members k) false (λ p. maybe (slice_get c.modules p) false (λ P. ltb M.order P.order))

-- entry k does not belong there: its module is external, was joined already, or runs before its predecessor
abbrev pub member_amiss : Chunk → ℕ → ℕ → Bool
member_amiss c k m =
    maybe (slice_get c.modules m) false (λ M. not (is_normal M.kind) || (list_any (nat_eq m) (take k c.members) || falls c k M))

abbrev pub member_tests : Chunk → ℕ → ℕ → List Test
member_tests c k m = (2, not (is_module c m)) ∷ (3, member_amiss c k m) ∷ []

abbrev pub unresolved_tests : Module → Unresolved → List Test
unresolved_tests M u =
    (2, not (is_scope M u.scope)) ∷ (6, is_some (nearest M u.scope u.name)) ∷ (7, not (is_base u.name)) ∷ []

-- a statement is faulty as a whole where one of the symbols that it declares is missing
abbrev pub statement_tests : Chunk → Statement → List Test
statement_tests c s = (2, list_any (missing c) s.declared) ∷ []

-- the predecessor of the other chunk has its number, or a greater one
abbrev pub not_above : Chunk → ℕ → OtherChunk → Bool
not_above c k o = maybe (row_before c.others k) false (λ p. not (nat_lt p.number o.number))

-- something imported from another chunk is missing, its number is out of order, or its helper's hint makes no name
abbrev pub other_tests : Chunk → ℕ → OtherChunk → List Test
other_tests c k o = (2, list_any (missing c) o.imports) ∷ (3, not_above c k o) ∷ (7, not (is_base (hint o.name))) ∷ []

-- the lists that each module has
abbrev pub own_lists : Chunk → Module → List (List (List Test))
own_lists c M =
    map (own_entry M) M.shims ∷ map (own_entry M) M.imports ∷ map (unresolved_tests M) M.unresolved ∷ map (statement_tests c) M.statements ∷ []

abbrev pub own_list_rows : Chunk → Module → List (List Test)
own_list_rows c M = flat_map (λ rows. rows) (own_lists c M)

-- the lists of what is named for the chunk as a whole: externals, the entry's and further symbols, other chunks
abbrev pub run_lists : Chunk → List (List (List Test))
run_lists c =
    map (module_entry c) c.direct ∷ map (module_entry c) c.entry_level ∷ map (module_entry c) c.indirect
    ∷ map (entry_tests c) c.entry ∷ map (symbol_entry c) c.used ∷ map (symbol_entry c) c.synthetic
    ∷ each_row (other_tests c) c.others ∷ []

-- every list; those of the modules are told between the chunk's own
abbrev pub all_lists : Chunk → List (List (List Test))
all_lists c =
    map name_tests c.globals ∷ each_row (member_tests c) c.members ∷ flat_map (own_list_rows c) c.modules
    ∷ flat_map (λ rows. rows) (run_lists c) ∷ []

abbrev pub list_rows : Chunk → List (List Test)
list_rows c = flat_map (λ rows. rows) (all_lists c)
