use Rattle.std.proofs.Common.{length, reverse}
use Rattle.renamer.specs.State.{chunk_in}
use Rattle.deconflict_chunk_symbols.specs.Performing.{Midway}
use Rattle.deconflict_chunk_symbols.specs.Run.{member_calls}
use Rattle.deconflict_chunk_symbols.proofs.modules.name_modules.Given as goal

abbrev pub invariant-loop-number : goal.invariant-loop-number
invariant-loop-number l = Midway member_calls (reverse (chunk_in l.initial.renamer).members) (length l.yielded) l.initial.renamer l.renamer
