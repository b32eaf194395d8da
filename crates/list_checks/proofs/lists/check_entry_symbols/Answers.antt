use Rattle.std.proofs.Common.{rules}
use Rattle.chunk_tables.specs.View.{chunk_of}
use Rattle.chunk_faults.specs.ListRows.{entry_tests}
use Rattle.row_checks.proofs.Told.{by_entries}
use Rattle.list_checks.proofs.lists.check_entry_symbols.Goals as goal

pub returns : goal.returns
returns c = by_entries _ _ c.deref.ensures.value _ c.check_rows.ensures (entry_tests (chunk_of c.args.chunk.now)) (λ i x r l h. search rules)
