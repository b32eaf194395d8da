use Rattle.std.proofs.Common.{rules}
use Rattle.chunk_tables.specs.View.{chunk_of, module_of, symbol_of}
use Rattle.chunk_faults.specs.SymbolRows.{symbol_tests}
use Rattle.row_checks.proofs.Told.{by_tests}
use Rattle.symbol_checks.proofs.symbols.check_module_symbols.Goals as goal

pub returns : goal.returns
returns c =
    by_tests symbol_of _ _ c.deref.ensures.value _ c.check_rows.ensures (symbol_tests (chunk_of c.args.chunk.now) (module_of c.args.module.now)) (λ i x r l h. search rules)
