use Rattle.std.proofs.Common.{map, ap, ◌∙◌}
use Rattle.conflict_resolver.specs.Held.{entries_of}
use Rattle.conflict_resolver.specs.Rows.{record_in}
use Rattle.conflict_resolver.proofs.Rows.{put_recorded}
use Rattle.conflict_resolver.proofs.resolver.ConflictResolver.put_on_record.Goals as goal

pub returns : goal.returns
returns c = record {
  records = ap (map record_in) c.store.ensures.entries ∙ put_recorded (entries_of c.args.self.now) c.args.name.now c.requires.unrecorded;
  room = c.store.ensures.room;
  slots = c.store.ensures.slots;
}
