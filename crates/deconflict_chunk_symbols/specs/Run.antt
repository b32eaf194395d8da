-- The naming calls of a whole chunk, in the order in which they are made. Assumes nothing.
use Rattle.std.specs.Prelude.{ℕ, Bool, cond, not, ◌&&◌, ◌||◌, List, [], ◌∷◌, ◌++◌, Option, flat_map, reverse, length, ◌==◌}
use Rattle.std.specs.List.{list_any, slice_get, range_with_len}
use Rattle.keys.specs.declared.refs.SymbolRef.{SymbolRef}
use Rattle.chunk_tables.specs.declared.chunk.EntrySymbol.{EntrySymbol}
use Rattle.chunk_tables.specs.declared.format.Format.TheVariants.{Esm}
use Rattle.chunk_tables.specs.declared.kind.RootBindingKind.TheVariants.{Authored, Synthesized}
use Rattle.chunk_tables.specs.declared.parts.ModuleKind.{ModuleKind}
use Rattle.chunk_tables.specs.declared.parts.ModuleKind.TheVariants.{Normal, External}
use Rattle.chunk_tables.specs.Formats.{code_of}
use Rattle.chunk_tables.specs.Kinds.{facade, kind_of}
use Rattle.chunk_tables.specs.Links.{canonical}
use Rattle.chunk_tables.specs.Lists.{maybe}
use Rattle.chunk_tables.specs.Model.{Statement, Module, OtherChunk, Chunk}
use Rattle.session_rules.specs.Calls.{Call, root}
use Rattle.session_rules.specs.Session.{same_symbol}

abbrev pub is_esm : Chunk → Bool
is_esm c = c.format == code_of Esm

abbrev pub authored : SymbolRef → List Call
authored q = root q Authored ∷ []

abbrev pub synthesized : SymbolRef → List Call
synthesized q = root q Synthesized ∷ []

abbrev pub by_kind : Chunk → SymbolRef → List Call
by_kind c q = root q (kind_of c q) ∷ []

abbrev pub own_symbol : ℕ → ℕ → SymbolRef
own_symbol m i = record { owner = m; symbol = i }

-- 1. outside esm the namespaces of the external modules of three lists; any other module is passed over
abbrev pub namespace_of : ℕ → ModuleKind → List Call
namespace_of m Normal = []
namespace_of m (External n) = authored (own_symbol m n)

abbrev pub namespace_call : Chunk → ℕ → List Call
namespace_call c m = maybe (slice_get c.modules m) [] (λ M. namespace_of m M.kind)

abbrev pub namespaces_of : Chunk → List ℕ → List Call
namespaces_of c ms = flat_map (namespace_call c) ms

abbrev pub all_namespaces : Chunk → List Call
all_namespaces c = namespaces_of c c.direct ++ (namespaces_of c c.entry_level ++ namespaces_of c c.indirect)

abbrev pub namespace_calls : Chunk → List Call
namespace_calls c = cond (is_esm c) [] (all_namespaces c)

-- 2. the symbols that the entry refers to, but those that came from CommonJS modules
abbrev pub entry_call : Chunk → EntrySymbol → List Call
entry_call c e = cond e.came_from_cjs [] (by_kind c e.symbol)

abbrev pub entry_calls : Chunk → List Call
entry_calls c = flat_map (entry_call c) c.entry

-- 3. under esm the used symbols of the direct externals, each module's by ascending number
abbrev pub is_used : Chunk → SymbolRef → Bool
is_used c q = list_any (λ u. same_symbol u q) c.used

abbrev pub used_call : Chunk → ℕ → ℕ → List Call
used_call c m i = cond (is_used c (own_symbol m i)) (authored (own_symbol m i)) []

abbrev pub symbols_of : Chunk → ℕ → ℕ
symbols_of c m = maybe (slice_get c.modules m) 0 (λ M. length M.symbols)

abbrev pub used_of : Chunk → ℕ → List Call
used_of c m = flat_map (used_call c m) (range_with_len 0 (symbols_of c m))

abbrev pub used_calls : Chunk → List Call
used_calls c = cond (is_esm c) (flat_map (used_of c) c.direct) []

-- 4. of each chunk module, last to first: its `hot` symbol, the `this` symbol of a wrapped one, and what its kept statements
-- declare that is its own
abbrev pub own_call : ℕ → Option ℕ → List Call
own_call m o = maybe o [] (λ i. synthesized (own_symbol m i))

abbrev pub this_call : ℕ → Module → List Call
this_call m M = cond M.wrapped (own_call m M.this) []

-- a symbol with the canonical symbol k is printed at the top level for its statement in the module m
abbrev pub printed_at_top : ℕ → Module → Statement → SymbolRef → Bool
printed_at_top m M s k = (k.owner == m) && (not M.wrapped || (facade M k.symbol || s.external))

abbrev pub declared_call : Chunk → ℕ → Module → Statement → SymbolRef → List Call
declared_call c m M s q = cond (printed_at_top m M s (canonical c q)) (by_kind c q) []

abbrev pub statement_calls : Chunk → ℕ → Module → Statement → List Call
statement_calls c m M s = cond s.kept (flat_map (declared_call c m M s) s.declared) []

abbrev pub module_calls : Chunk → ℕ → Module → List Call
module_calls c m M = own_call m M.hot ++ (this_call m M ++ flat_map (statement_calls c m M) M.statements)

abbrev pub member_calls : Chunk → ℕ → List Call
member_calls c m = maybe (slice_get c.modules m) [] (module_calls c m)

abbrev pub members_calls : Chunk → List Call
members_calls c = flat_map (member_calls c) (reverse c.members)

-- 5. the synthetic symbols
abbrev pub synthetic_calls : Chunk → List Call
synthetic_calls c = flat_map synthesized c.synthetic

-- 6. what is imported from other chunks, chunk by chunk
abbrev pub imported_from : Chunk → OtherChunk → List Call
imported_from c o = flat_map (by_kind c) o.imports

abbrev pub import_calls : Chunk → List Call
import_calls c = flat_map (imported_from c) c.others

-- the calls that name symbols
abbrev pub naming_calls : Chunk → List Call
naming_calls c = namespace_calls c ++ (entry_calls c ++ (used_calls c ++ (members_calls c ++ (synthetic_calls c ++ import_calls c))))
