use Rattle.deconflict_chunk_symbols.specs.Performing.{Midway}
use Rattle.deconflict_chunk_symbols.specs.Run.{entry_call}
use Rattle.deconflict_chunk_symbols.proofs.run.name_entry_symbols.Given as goal

abbrev pub invariant-loop-entry : goal.invariant-loop-entry
invariant-loop-entry l = Midway entry_call l.entry-items l.entry-index l.initial.renamer l.renamer
