use Rattle.std.proofs.Common.{rules}
use Rattle.chunk_tables.specs.View.{chunk_of, other_of}
use Rattle.chunk_faults.specs.ListRows.{other_tests}
use Rattle.row_checks.proofs.Told.{by_tests}
use Rattle.list_checks.proofs.lists.check_others.Goals as goal

pub returns : goal.returns
returns c = by_tests other_of _ _ c.deref.ensures.value _ c.check_rows.ensures (other_tests (chunk_of c.args.chunk.now)) (λ i x r l h. search rules)
