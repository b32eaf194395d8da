-- What a verdict on a chunk says. Assumes nothing.
use Rattle.std.specs.Prelude.{◌≡◌, Bool, false, None}
use Rattle.chunk_tables.specs.Model.{Chunk}
use Rattle.chunk_faults.specs.Faults.{Judged}
use Rattle.chunk_faults.specs.Sound.{Sound}
use Rattle.chunk_faults.specs.Verdict.{table_rows, verdict}

-- the number that it tells is the least fault's, and where it tells none there is no fault
abbrev pub TellsTheLeastFault : Type 0
TellsTheLeastFault = (c : Chunk) (short : Bool) → Judged (table_rows c short) (verdict c short)

-- where it tells none the tables are sound, and the memory is not too small
abbrev pub PassesSoundTables : Type 0
PassesSoundTables = (c : Chunk) (short : Bool) → verdict c short ≡ None → Sound c × (short ≡ false)
