use Rattle.chunk_tables.specs.View.{chunk_of}
use Rattle.names.specs.Refusals.{number_of}
use Rattle.std.proofs.Common.{vec_len}
use Rattle.policies.proofs.Room.{none_unnoted}
use Rattle.policies.proofs.inner_names.InnerBindingNames.new.Goals as goal

pub returns-in-Err-clause-room_for_a_sound_chunk : goal.returns-in-Err-clause-room_for_a_sound_chunk
returns-in-Err-clause-room_for_a_sound_chunk c =
    let told = rw (c.new-table.ensures.room, c.new-table.ensures.entries) at c.in-Err.ensures.names in
    λ sound l. absurd (none_unnoted (chunk_of c.args.chunk.now) sound (vec_len c.args.slots) (number_of c.in-Err.refusal) l told)
