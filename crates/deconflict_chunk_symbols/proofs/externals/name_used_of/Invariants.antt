use Rattle.std.specs.List.{range_with_len}
use Rattle.deconflict_chunk_symbols.specs.Performing.{Midway}
use Rattle.deconflict_chunk_symbols.specs.Run.{used_call}
use Rattle.deconflict_chunk_symbols.proofs.externals.name_used_of.Given as goal

abbrev pub invariant-loop-symbol : goal.invariant-loop-symbol
invariant-loop-symbol l = Midway (λ c. used_call c l.owner) (range_with_len 0 l.symbol-end) l.symbol l.initial.renamer l.renamer
