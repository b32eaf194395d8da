-- What an opening puts on record. Assumes nothing.
use Rattle.std.specs.Prelude.{◌≡◌, ℕ, List, [], Some, length, min}
use Rattle.keyed_table.specs.Links.{AllBlank}
use Rattle.keyed_table.specs.declared.slot.Slot.{Slot}
use Rattle.names.specs.declared.name.Name.{Name}
use Rattle.chunk_tables.specs.declared.format.Format.{Format}
use Rattle.chunk_tables.specs.Formats.{of_code}
use Rattle.chunk_tables.specs.Model.{Chunk}
use Rattle.conflict_resolver.specs.Held.{held, room, slots as slots_of}
use Rattle.conflict_resolver.specs.Records.{Record}
use Rattle.conflict_resolver.specs.Rules.{Reservation, made, declined}
use Rattle.conflict_resolver.specs.declared.resolver.ConflictResolver.{ConflictResolver}
use Rattle.reservations.specs.Reserved.{reserved_names}
use Rattle.reservations.specs.Reserving.{reserve_each}

-- the reserved names, put on record one after another, where there is memory for so many records
unfoldable pub reservations : Format → Chunk → ℕ → Reservation
reservations f c memory = reserve_each (min c.records memory) [] (reserved_names f c)

-- exactly the reserved names of the chunk's format are on record
pub record Reserves (c : Chunk) (memory : ℕ) (es : List Record) : Type 0 where
  pub format : Format
  pub coded : of_code c.format ≡ Some format
  pub reserved : made es ≡ reservations format c memory

-- the resolver has the reserved names on record, and room for as many names as the chunk says
pub record OpensRecords (c : Chunk) (memory : ℕ) (r : ConflictResolver) : Type 0 where
  pub records : Reserves c memory (held r)
  pub most : room r ≡ min c.records memory
  pub slots : slots_of r ≡ memory

-- the reserved names are more than may be on record: they are refused with 10
pub record Exceeds (c : Chunk) (memory : ℕ) : Type 0 where
  pub format : Format
  pub coded : of_code c.format ≡ Some format
  pub so_far : List Record
  pub refused : declined so_far 10 ≡ reservations format c memory

-- so many slots, each of which is empty
abbrev pub Emptied : ℕ → List (Slot Name ℕ) → Type 0
Emptied n ss = (length ss ≡ n) × AllBlank ss
