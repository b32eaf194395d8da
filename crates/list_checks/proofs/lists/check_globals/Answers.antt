use Rattle.std.proofs.Common.{rules, vec_items}
use Rattle.chunk_faults.specs.ListRows.{name_tests}
use Rattle.row_checks.proofs.Told.{by_own_tests}
use Rattle.list_checks.proofs.lists.check_globals.Goals as goal

pub returns : goal.returns
returns c = by_own_tests vec_items _ _ c.deref.ensures.value _ c.check_rows.ensures name_tests (λ i x r l h. search rules)
