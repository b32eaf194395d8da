use Rattle.std.proofs.Common.{rules, refl}
use Rattle.chunk_tables.specs.View.{chunk_of}
use Rattle.chunk_faults.specs.ListRows.{symbol_entry}
use Rattle.row_checks.proofs.Told.{by_entries}
use Rattle.list_checks.proofs.lists.entries.check_symbol_entries.Goals as goal

pub returns : goal.returns
returns c = by_entries _ _ refl _ c.check_rows.ensures (symbol_entry (chunk_of c.args.chunk.now)) (λ i x r l h. search rules)
