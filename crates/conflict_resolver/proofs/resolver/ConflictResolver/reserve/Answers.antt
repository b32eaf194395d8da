use Rattle.std.proofs.Common.{sym, refl, ap, ◌∙◌}
use Rattle.names.specs.Spelt.{spelt}
use Rattle.conflict_resolver.specs.Held.{held, room}
use Rattle.conflict_resolver.specs.Rules.{made}
use Rattle.conflict_resolver.proofs.Reservations.{none_from, reserve_no_name, reserve_recorded, reserve_full, reserve_new}
use Rattle.conflict_resolver.proofs.resolver.ConflictResolver.reserve.Goals as goal

pub returns-then-not-is_base : goal.returns-then-not-is_base
returns-then-not-is_base c = record {
  rules = reserve_no_name (room c.args.self.now) (held c.args.self.now) (spelt c.args.name.now) (sym c.if-not-is_base.ensures);
  room = refl;
  slots = refl;
}

pub returns-then-contains : goal.returns-then-contains
returns-then-contains c = record {
  rules = reserve_recorded (room c.args.self.now) (held c.args.self.now) (spelt c.args.name.now) (sym c.if-not-is_base.ensures) (sym c.if-contains.ensures);
  room = refl;
  slots = refl;
}

pub returns-then-not-has_free_record : goal.returns-then-not-has_free_record
returns-then-not-has_free_record c = record {
  rules = reserve_full (room c.args.self.now) (held c.args.self.now) (spelt c.args.name.now) (sym c.if-not-is_base.ensures) (none_from _ (sym c.if-contains.ensures)) (sym c.if-not-has_free_record.ensures);
  room = refl;
  slots = refl;
}

pub put_on_record-requires : goal.put_on_record-requires
put_on_record-requires c = record { unrecorded = none_from _ (sym c.if-contains.ensures); free = sym c.if-not-has_free_record.ensures }

pub returns : goal.returns
returns c = record {
  rules = ap made c.put_on_record.ensures.records ∙ reserve_new (room c.args.self.now) (held c.args.self.now) (spelt c.args.name.now) (sym c.if-not-is_base.ensures) (none_from _ (sym c.if-contains.ensures)) (sym c.if-not-has_free_record.ensures);
  room = c.put_on_record.ensures.room;
  slots = c.put_on_record.ensures.slots;
}
