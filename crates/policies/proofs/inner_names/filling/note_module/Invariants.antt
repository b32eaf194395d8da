use Rattle.std.proofs.Common.{◌≡◌, take}
use Rattle.std.specs.List.{flat_map}
use Rattle.keyed_table.specs.Contents.{room}
use Rattle.chunk_tables.specs.View.{module_of, symbol_of}
use Rattle.policies.specs.InnerNames.{symbol_names}
use Rattle.policies.specs.Sets.{Noted}
use Rattle.policies.proofs.inner_names.filling.note_module.Given as goal

abbrev pub invariant-loop-symbol : goal.invariant-loop-symbol
invariant-loop-symbol l = record {
  noted : Noted (flat_map (λ y. symbol_names (module_of l.module) (symbol_of y)) (take l.symbol-index l.symbol-items)) l.fn.names.entries l.names.entries;
  room : room l.names ≡ room l.fn.names;
}
