use Rattle.std.proofs.Common.{rules}
use Rattle.chunk_tables.specs.View.{module_of, parent_of}
use Rattle.chunk_faults.specs.ScopeRows.{scope_tests}
use Rattle.row_checks.proofs.Told.{by_tests}
use Rattle.table_checks.proofs.scopes.check_module_scopes.Goals as goal

pub returns : goal.returns
returns c = by_tests parent_of _ _ c.deref.ensures.value _ c.check_rows.ensures (scope_tests (module_of c.args.module.now)) (λ i x r l h. search rules)
