-- A verdict tells the least fault. Assumes nothing.
use Rattle.std.proofs.Common.{refl}
use Rattle.chunk_faults.specs.Laws.{TellsTheLeastFault}
use Rattle.chunk_faults.specs.Verdict.{table_rows, verdict}
use Rattle.chunk_faults.proofs.Ascent.{ascent}
use Rattle.chunk_faults.proofs.Judgement.{judged}

pub judges : TellsTheLeastFault
judges c short = judged (table_rows c short) (ascent c short) (verdict c short) refl
