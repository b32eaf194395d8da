use Rattle.std.proofs.Common.{rules}
use Rattle.chunk_tables.specs.View.{chunk_of, module_of}
use Rattle.chunk_faults.specs.ReferenceRows.{reference_tests}
use Rattle.row_checks.proofs.Told.{by_entries}
use Rattle.symbol_checks.proofs.references.check_module_references.Goals as goal

pub returns : goal.returns
returns c =
    by_entries _ _ c.deref.ensures.value _ c.check_rows.ensures (reference_tests (chunk_of c.args.chunk.now) (module_of c.args.module.now)) (λ i x r l h. search rules)
