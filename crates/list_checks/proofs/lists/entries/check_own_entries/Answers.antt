use Rattle.std.proofs.Common.{rules, refl}
use Rattle.chunk_tables.specs.View.{module_of}
use Rattle.chunk_faults.specs.ListRows.{own_entry}
use Rattle.row_checks.proofs.Told.{by_entries}
use Rattle.list_checks.proofs.lists.entries.check_own_entries.Goals as goal

pub returns : goal.returns
returns c = by_entries _ _ refl _ c.check_rows.ensures (own_entry (module_of c.args.module.now)) (λ i x r l h. search rules)
