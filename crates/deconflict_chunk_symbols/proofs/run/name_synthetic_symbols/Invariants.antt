use Rattle.deconflict_chunk_symbols.specs.Performing.{Midway}
use Rattle.deconflict_chunk_symbols.specs.Run.{synthesized}
use Rattle.deconflict_chunk_symbols.proofs.run.name_synthetic_symbols.Given as goal

abbrev pub invariant-loop-symbol : goal.invariant-loop-symbol
invariant-loop-symbol l = Midway (λ c. synthesized) l.symbol-items l.symbol-index l.initial.renamer l.renamer
