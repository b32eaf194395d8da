use Rattle.std.proofs.Common.{rules}
use Rattle.chunk_tables.specs.View.{chunk_of, module_of}
use Rattle.chunk_faults.specs.ListRows.{own_list_rows}
use Rattle.row_checks.proofs.Told.{by_rows}
use Rattle.list_checks.proofs.lists.check_own_lists.Goals as goal

pub returns : goal.returns
returns c = by_rows module_of _ _ c.deref.ensures.value _ c.check_rows.ensures (own_list_rows (chunk_of c.args.chunk.now)) (λ i x r l h. search rules)
