-- What the policies of a chunk have. Assumes nothing.
use Rattle.std.specs.Prelude.{ℕ, List, length}
use Rattle.keyed_table.specs.declared.slot.Slot.{Slot}
use Rattle.names.specs.declared.name.Name.{Name}
use Rattle.chunk_tables.specs.declared.chunk.Chunk.{Chunk}
use Rattle.policies.specs.declared.chunk_policies.ChunkPolicies.{ChunkPolicies}

-- the tables that they are made of
abbrev pub tables_of : ChunkPolicies → Chunk
tables_of p = p.inner_binding_names.chunk.now

-- the memory of the inner names, and how many it has room for
abbrev pub memory_of : ChunkPolicies → List (Slot Name (Unit {0}))
memory_of p = p.inner_binding_names.names.memory

abbrev pub room_for_names : ChunkPolicies → ℕ
room_for_names p = length (memory_of p)
