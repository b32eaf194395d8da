-- What the sizes are good for. Assumes nothing.
use Rattle.std.specs.Prelude.{◌≡◌, ◌≤◌, false, Some, None}
use Rattle.chunk_tables.specs.Limits.{symbol_count, too_large}
use Rattle.chunk_tables.specs.Model.{Chunk}
use Rattle.session_memory.specs.Sizes.{too_small, HasRoom, sizes_for}
use Rattle.session_memory.specs.declared.sizes.MemorySizes.{MemorySizes}

-- a chunk with no more symbols than a chunk may have has places enough in memory that is not too small for it
abbrev pub GivesRoom : Type 0
GivesRoom = (c : Chunk) (z : MemorySizes) → symbol_count c ≤ 16384 → too_small c z ≡ false → HasRoom c z

-- a chunk within the limits has memory enough, or finds it too small just where it finds too small what was given
pub record Suffices : Type 0 where
  pub asked_for : (c : Chunk) → too_large c ≡ false → too_small c (sizes_for c None) ≡ false
  pub given : (c : Chunk) (z : MemorySizes) → too_large c ≡ false → too_small c (sizes_for c (Some z)) ≡ too_small c z
