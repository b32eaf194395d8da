use Rattle.deconflict_chunk_symbols.specs.Drawing.{DrawnTo}
use Rattle.deconflict_chunk_symbols.proofs.other_chunks.create_require_names.Given as goal

abbrev pub invariant-loop-place : goal.invariant-loop-place
invariant-loop-place l = DrawnTo l.place l.initial.renamer l.renamer
