use Rattle.std.proofs.Common.{map, take}
use Rattle.chunk_tables.specs.View.{symbol_of}
use Rattle.binding_index.specs.Indexes.{Finds}
use Rattle.binding_index.proofs.build.fill.Given as goal

abbrev pub invariant-loop-i : goal.invariant-loop-i
invariant-loop-i l = Finds (map symbol_of (take l.i l.symbols)) l.table
