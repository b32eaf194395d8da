-- The helpers of other chunks, as a table holds them. Assumes nothing.
use Rattle.std.specs.Prelude.{◌≡◌, ℕ, Bool, true, List, map, ◌==◌}
use Rattle.std.specs.List.{All, list_any}
use Rattle.names.specs.Spelt.{spelt}
use Rattle.names.specs.declared.name.Name.{Name}
use Rattle.keys.specs.declared.refs.ChunkIdx.{ChunkIdx}
use Rattle.keyed_table.specs.declared.slot.Entry.{Entry}
use Rattle.chunk_tables.specs.Model.{Chunk}
use Rattle.session_rules.specs.Helpers.{Helper}

-- an entry, as a helper
abbrev pub helper_in : Entry ChunkIdx Name → Helper
helper_in e = record { chunk = e.key.0; name = spelt e.value }

abbrev pub helpers_in : List (Entry ChunkIdx Name) → List Helper
helpers_in es = map helper_in es

-- one of the other chunks has the number
abbrev pub is_other : Chunk → ℕ → Bool
is_other c n = list_any (λ o. o.number == n) c.others

-- each entry is that of one of the other chunks
abbrev pub OfOthers : Chunk → List (Entry ChunkIdx Name) → Type 0
OfOthers c es = All (λ e. is_other c e.key.0 ≡ true) es
