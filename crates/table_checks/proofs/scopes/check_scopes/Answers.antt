use Rattle.std.proofs.Common.{rules}
use Rattle.chunk_tables.specs.View.{module_of}
use Rattle.chunk_faults.specs.Verdict.{scope_rows}
use Rattle.row_checks.proofs.Told.{by_rows}
use Rattle.table_checks.proofs.scopes.check_scopes.Goals as goal

pub returns : goal.returns
returns c = by_rows module_of _ _ c.deref.ensures.value _ c.check_rows.ensures scope_rows (λ i x r l h. search rules)
