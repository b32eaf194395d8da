use Rattle.chunk_faults.proofs.Soundness.{passes}
use Rattle.chunk_faults.proofs.Verdicts.{judges}
use Rattle.chunk_faults.proofs.laws.Goals as goal

pub returns : goal.returns
returns c = record { least = judges; sound = passes }
