use Rattle.std.proofs.Common.{sym}
use Rattle.given_names.proofs.Named.{distinct_given, named, enough}
use Rattle.given_names.proofs.GivenNames.give.Goals as goal

pub invariant_of-self : goal.invariant_of-self
invariant_of-self c = record {
  distinct = distinct_given c.args.self.now c.args.symbol c.args.name c.name_of.result c.name_of.ensures (sym c.if-is_some.ensures) _ _ c.insert.ensures.entries;
}

pub returns-clause-given : goal.returns-clause-given
returns-clause-given c =
    named c.args.self.now c.args.symbol c.args.name c.name_of.result c.name_of.ensures (sym c.if-is_some.ensures) c.insert.result _ c.insert.ensures.result c.insert.ensures.entries c.insert.ensures.refused

pub returns-clause-enough : goal.returns-clause-enough
returns-clause-enough c =
    enough c.args.self.now c.args.symbol c.args.name c.name_of.result c.name_of.ensures (sym c.if-is_some.ensures) c.insert.result c.insert.ensures.result
