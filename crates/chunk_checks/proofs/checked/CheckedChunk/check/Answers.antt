use Rattle.chunk_tables.specs.View.{chunk_of}
use Rattle.chunk_checks.proofs.Checking.{passes, fails}
use Rattle.chunk_checks.proofs.checked.CheckedChunk.check.Goals as goal

pub invariant_of-result : goal.invariant_of-result
invariant_of-result c = record { sound = ∣ (passes (chunk_of c.args.chunk) c.args.sizes.now c.in-Ok.ensures).sound ∣₁ }

pub returns-in-Ok-clause-verdict : goal.returns-in-Ok-clause-verdict
returns-in-Ok-clause-verdict c = passes (chunk_of c.args.chunk) c.args.sizes.now c.in-Ok.ensures

pub returns-in-Err-clause-verdict : goal.returns-in-Err-clause-verdict
returns-in-Err-clause-verdict c = fails (chunk_of c.args.chunk) c.args.sizes.now _ c.in-Err.ensures
