-- The file policy, of synthesized symbols and helpers. Assumes nothing.
use Rattle.std.specs.Prelude.{ℕ, Bool, List}
use Rattle.chunk_tables.specs.Model.{Chunk}
use Rattle.policies.specs.InnerNames.{inner_name}

-- an inner name of the chunk is vetoed, bare or numbered
abbrev pub file_vetoes : Chunk → List ℕ → Bool → Bool
file_vetoes c n bare = inner_name c n
