-- Numbers that name a row of a table, or none. Assumes nothing.
use Rattle.std.specs.Prelude.{ℕ, Bool, false, not, length, is_some, Option, nat_lt}
use Rattle.keys.specs.declared.refs.SymbolRef.{SymbolRef}
use Rattle.chunk_tables.specs.Lists.{maybe}
use Rattle.chunk_tables.specs.Links.{symbol_at}
use Rattle.chunk_tables.specs.Model.{Module, Chunk}

abbrev pub is_module : Chunk → ℕ → Bool
is_module c m = nat_lt m (length c.modules)

abbrev pub is_scope : Module → ℕ → Bool
is_scope M s = nat_lt s (length M.parents)

abbrev pub is_symbol : Module → ℕ → Bool
is_symbol M i = nat_lt i (length M.symbols)

-- a number that is given, and names no symbol of the module
abbrev pub strays : Module → Option ℕ → Bool
strays M o = maybe o false (λ i. not (is_symbol M i))

-- a pair that names no symbol of the chunk
abbrev pub missing : Chunk → SymbolRef → Bool
missing c q = not (is_some (symbol_at c q))

-- a pair that is given, and names no symbol of the chunk
abbrev pub dangles : Chunk → Option SymbolRef → Bool
dangles c o = maybe o false (missing c)
