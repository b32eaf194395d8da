-- What the check of a chunk comes to, with memory of certain sizes. Assumes nothing.
use Rattle.std.specs.Prelude.{◌≡◌, ℕ, Some, None}
use Rattle.chunk_tables.specs.Model.{Chunk}
use Rattle.chunk_faults.specs.Faults.{Judged}
use Rattle.chunk_faults.specs.Sound.{Sound}
use Rattle.chunk_faults.specs.Verdict.{table_rows, verdict}
use Rattle.session_memory.specs.Sizes.{too_small, HasRoom}
use Rattle.session_memory.specs.declared.sizes.MemorySizes.{MemorySizes}

-- the chunk passes: no fault is told, and there is none; the tables are sound, and there is room for them
pub record Passes (c : Chunk) (z : MemorySizes) : Type 0 where
  pub told : verdict c (too_small c z) ≡ None
  pub faultless : Judged (table_rows c (too_small c z)) None
  pub sound : Sound c
  pub room : HasRoom c z

-- the chunk fails with the number n: it is told, and is that of the least fault
pub record Fails (c : Chunk) (z : MemorySizes) (n : ℕ) : Type 0 where
  pub told : verdict c (too_small c z) ≡ Some n
  pub least : Judged (table_rows c (too_small c z)) (Some n)
