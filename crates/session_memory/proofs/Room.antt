-- Memory that is not too small has room. Assumes nothing.
use Rattle.std.proofs.Common.{length, arith}
use Rattle.std.proofs.lemmas.Bool.{ltb-false, or_parts}
use Rattle.chunk_tables.specs.Limits.{symbol_count}
use Rattle.session_memory.specs.Laws.{GivesRoom}
use Rattle.session_memory.specs.Sizes.{counted}

pub gives_room : GivesRoom
gives_room c z few e =
    let a = or_parts _ _ e in
    let b = or_parts _ _ a.1 in
    let d = or_parts _ _ b.1 in
    let f = or_parts _ _ d.1 in
    let names = ltb-false z.names (counted (symbol_count c)) b.0 in
    let inner = ltb-false z.inner (counted (symbol_count c)) d.0 in
    record {
      for_records = ltb-false z.records c.records a.0;
      for_names = omega (arith, few, names);
      for_inner = omega (arith, few, inner);
      for_marks = ltb-false z.marks (length c.modules) f.0;
      for_helpers = ltb-false z.helpers (length c.others) f.1;
    }
