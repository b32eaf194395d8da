use Rattle.chunk_tables.specs.View.{module_of, statement_of}
use Rattle.deconflict_chunk_symbols.specs.Performing.{Midway}
use Rattle.deconflict_chunk_symbols.specs.Run.{statement_calls}
use Rattle.deconflict_chunk_symbols.proofs.modules.name_statements.Given as goal

abbrev pub invariant-loop-statement : goal.invariant-loop-statement
invariant-loop-statement l = Midway (λ c s. statement_calls c l.owner (module_of l.of) (statement_of s)) l.statement-items l.statement-index l.initial.renamer l.renamer
