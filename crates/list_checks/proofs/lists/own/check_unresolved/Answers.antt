use Rattle.std.proofs.Common.{rules}
use Rattle.chunk_tables.specs.View.{module_of, unresolved_of}
use Rattle.chunk_faults.specs.ListRows.{unresolved_tests}
use Rattle.row_checks.proofs.Told.{by_own_tests}
use Rattle.list_checks.proofs.lists.own.check_unresolved.Goals as goal

pub returns : goal.returns
returns c = by_own_tests unresolved_of _ _ c.deref.ensures.value _ c.check_rows.ensures (unresolved_tests (module_of c.args.module.now)) (λ i x r l h. search rules)
