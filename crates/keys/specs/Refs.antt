-- The keys by number: how they hash and how they are ordered. Assumes nothing.
use Rattle.std.specs.Prelude.{ℕ, ◌+◌, ◌*◌, ◌/◌, ◌%◌, ◌^◌, Bool, ◌&&◌, ◌||◌, ◌==◌, nat_lt}
use Rattle.keys.specs.declared.refs.SymbolRef.{SymbolRef}
use Rattle.keys.specs.declared.refs.ChunkIdx.{ChunkIdx}

-- a hash h, and a word w mixed into it; 32 bits throughout
abbrev pub mixed : ℕ → ℕ → ℕ
mixed h w = ((h + w) * 2654435769 % 2 ^ 32 / 2 ^ 15 + (h + w) * 2654435769) % 2 ^ 32

abbrev pub symbol_hash : SymbolRef → ℕ
symbol_hash x = mixed (mixed 0 x.owner) x.symbol

-- by module, and in one module by number
abbrev pub symbol_under : SymbolRef → SymbolRef → Bool
symbol_under x y = nat_lt x.owner y.owner || (x.owner == y.owner && nat_lt x.symbol y.symbol)

abbrev pub chunk_hash : ChunkIdx → ℕ
chunk_hash x = mixed 0 x.0

abbrev pub chunk_under : ChunkIdx → ChunkIdx → Bool
chunk_under x y = nat_lt x.0 y.0
