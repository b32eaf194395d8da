use Rattle.chunk_tables.specs.View.{other_of}
use Rattle.deconflict_chunk_symbols.specs.Performing.{Midway}
use Rattle.deconflict_chunk_symbols.specs.Run.{imported_from}
use Rattle.deconflict_chunk_symbols.proofs.other_chunks.name_imports.Given as goal

abbrev pub invariant-loop-other : goal.invariant-loop-other
invariant-loop-other l = Midway (λ c o. imported_from c (other_of o)) l.other-items l.other-index l.initial.renamer l.renamer
