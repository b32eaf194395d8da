use Rattle.deconflict_chunk_symbols.specs.Performing.{Midway}
use Rattle.deconflict_chunk_symbols.specs.Run.{used_of}
use Rattle.deconflict_chunk_symbols.proofs.externals.name_used_of_each.Given as goal

abbrev pub invariant-loop-external : goal.invariant-loop-external
invariant-loop-external l = Midway used_of l.external-items l.external-index l.initial.renamer l.renamer
