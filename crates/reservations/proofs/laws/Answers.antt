use Rattle.reservations.proofs.Ends.{reserves_the_names, refused_for_cause, bases_refused_where_full, sound_refused_where_full, reserved_are_on_record}
use Rattle.reservations.proofs.laws.Goals as goal

pub returns : goal.returns
returns c = record { granted = reserves_the_names; refused = refused_for_cause; bases = bases_refused_where_full; sound = sound_refused_where_full; reserved = reserved_are_on_record }
