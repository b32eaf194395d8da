use Rattle.std.proofs.Common.{rules}
use Rattle.chunk_tables.specs.View.{chunk_of, statement_of}
use Rattle.chunk_faults.specs.ListRows.{statement_tests}
use Rattle.row_checks.proofs.Told.{by_own_tests}
use Rattle.list_checks.proofs.lists.own.check_statements.Goals as goal

pub returns : goal.returns
returns c = by_own_tests statement_of _ _ c.deref.ensures.value _ c.check_rows.ensures (statement_tests (chunk_of c.args.chunk.now)) (λ i x r l h. search rules)
