use Rattle.std.proofs.Common.{◌≡◌, take}
use Rattle.std.specs.List.{flat_map}
use Rattle.keyed_table.specs.Contents.{room}
use Rattle.chunk_tables.specs.View.{chunk_of}
use Rattle.policies.specs.InnerNames.{member_names}
use Rattle.policies.specs.Sets.{Noted}
use Rattle.policies.proofs.inner_names.filling.note_chunk.Given as goal

abbrev pub invariant-loop-number : goal.invariant-loop-number
invariant-loop-number l = record {
  noted : Noted (flat_map (member_names (chunk_of l.chunk)) (take l.number-index l.number-items)) l.fn.names.entries l.names.entries;
  room : room l.names ≡ room l.fn.names;
}
