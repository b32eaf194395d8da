-- The test of a chunk's limits, and of the memory for it. Assumes nothing.
use Rattle.std.specs.Prelude.{Bool, ◌||◌, List, [], ◌∷◌}
use Rattle.chunk_tables.specs.Limits.{too_large}
use Rattle.chunk_tables.specs.Model.{Chunk}
use Rattle.chunk_faults.specs.Tests.{Test}

-- the chunk is over the limits, or the memory is too short for it
abbrev pub limit_tests : Chunk → Bool → List Test
limit_tests c short = (1, too_large c || short) ∷ []
