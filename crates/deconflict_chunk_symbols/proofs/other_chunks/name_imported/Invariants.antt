use Rattle.deconflict_chunk_symbols.specs.Performing.{Midway}
use Rattle.deconflict_chunk_symbols.specs.Run.{by_kind}
use Rattle.deconflict_chunk_symbols.proofs.other_chunks.name_imported.Given as goal

abbrev pub invariant-loop-symbol : goal.invariant-loop-symbol
invariant-loop-symbol l = Midway by_kind l.symbols l.symbol-index l.initial.renamer l.renamer
