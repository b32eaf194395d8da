use Rattle.session_rules.proofs.Lawful as law
use Rattle.session_rules.proofs.WorkedCalls.{worked}
use Rattle.session_rules.proofs.laws.Goals as goal

pub returns : goal.returns
returns c = record {
  kept = law.kept;
  nothing_else = law.nothing_else;
  opened = law.stays_opened;
  apart = law.apart;
  fresh = law.fresh;
  unvetoed = law.unvetoed;
  own_name = law.from_its_own_name;
  bounded = law.bounded;
  untouched = law.untouched;
  reserved = law.reserved_never_given;
  worked = worked;
}
