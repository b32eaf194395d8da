use Rattle.std.proofs.Common.{rules}
use Rattle.chunk_tables.specs.View.{chunk_of, module_of}
use Rattle.chunk_faults.specs.Verdict.{symbol_rows}
use Rattle.row_checks.proofs.Told.{by_rows}
use Rattle.symbol_checks.proofs.symbols.check_symbols.Goals as goal

pub returns : goal.returns
returns c = by_rows module_of _ _ c.deref.ensures.value _ c.check_rows.ensures (symbol_rows (chunk_of c.args.chunk.now)) (λ i x r l h. search rules)
