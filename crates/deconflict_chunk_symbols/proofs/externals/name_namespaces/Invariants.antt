use Rattle.deconflict_chunk_symbols.specs.Performing.{Midway}
use Rattle.deconflict_chunk_symbols.specs.Run.{namespace_call}
use Rattle.deconflict_chunk_symbols.proofs.externals.name_namespaces.Given as goal

abbrev pub invariant-loop-external : goal.invariant-loop-external
invariant-loop-external l = Midway namespace_call l.externals l.external-index l.initial.renamer l.renamer
