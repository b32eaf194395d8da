use Rattle.chunk_tables.specs.View.{module_of, statement_of}
use Rattle.deconflict_chunk_symbols.specs.Performing.{Midway}
use Rattle.deconflict_chunk_symbols.specs.Run.{declared_call}
use Rattle.deconflict_chunk_symbols.proofs.modules.name_statement.Given as goal

abbrev pub invariant-loop-symbol : goal.invariant-loop-symbol
invariant-loop-symbol l = Midway (λ c. declared_call c l.owner (module_of l.of) (statement_of l.statement)) l.symbol-items l.symbol-index l.initial.renamer l.renamer
