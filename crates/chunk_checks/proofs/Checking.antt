-- What a check comes to that follows the verdict. Assumes nothing.
use Rattle.std.proofs.Common.{◌≡◌, Some, None, sym, subst}
use Rattle.chunk_tables.specs.Model.{Chunk}
use Rattle.chunk_faults.specs.Faults.{Judged}
use Rattle.chunk_faults.specs.Verdict.{table_rows, verdict}
use Rattle.chunk_faults.proofs.Soundness.{passes as sound_and_long}
use Rattle.chunk_faults.proofs.Verdicts.{judges}
use Rattle.session_memory.proofs.Room.{gives_room}
use Rattle.session_memory.specs.Sizes.{too_small}
use Rattle.session_memory.specs.declared.sizes.MemorySizes.{MemorySizes}
use Rattle.chunk_checks.specs.Checking.{Passes, Fails}

module _ (c : Chunk) (z : MemorySizes) where
  pub passes : None ≡ verdict c (too_small c z) → Passes c z
  passes e =
      let s = sound_and_long c (too_small c z) (sym e) in
      record {
        told = sym e;
        faultless = subst (Judged (table_rows c (too_small c z))) (sym e) (judges c (too_small c z));
        sound = s.0;
        room = gives_room c z s.0.limits.symbols s.1;
      }

  pub fails : (n : _) → Some n ≡ verdict c (too_small c z) → Fails c z n
  fails n e = record { told = sym e; least = subst (Judged (table_rows c (too_small c z))) (sym e) (judges c (too_small c z)) }
