-- The memory of a set of inner names, and why it holds none. Assumes nothing.
use Rattle.std.specs.Prelude.{ℕ}
use Rattle.keyed_table.specs.Contents.{room}
use Rattle.chunk_tables.specs.Model.{Chunk}
use Rattle.policies.specs.InnerNames.{inner_names}
use Rattle.policies.specs.Sets.{Unnoted}
use Rattle.policies.specs.declared.inner_names.InnerBindingNames.{InnerBindingNames}

-- how many names the set has room for
abbrev pub slot_count : InnerBindingNames → ℕ
slot_count s = room s.names

-- why the inner names of the chunk cannot be held in so many slots
abbrev pub Refused : Chunk → ℕ → ℕ → Type 0
Refused c slots why = Unnoted (inner_names c) slots 0 why
