use Rattle.std.proofs.Common.{is_some, sym, refl, ap, ◌∙◌, arith}
use Rattle.std.proofs.lemmas.Bool.{or_left, or_from, le-ltb}
use Rattle.keyed_table.proofs.Lookups.{lookup_none, put_none, put_sought, sought_there, distinct_push}
use Rattle.keyed_table.proofs.table.Table.insert.Goals as goal

pub returns-in-Some-clause-result : goal.returns-in-Some-clause-result
returns-in-Some-clause-result g c = sym (or_left _ _ (sought_there g.K.PartialEq.eq g.met.K.HashKey.tells _ _ c.place_of.ensures.distinct _ c.in-Some.ensures.sought))

pub returns-in-Some-clause-entries : goal.returns-in-Some-clause-entries
returns-in-Some-clause-entries g c =
    c.replace.ensures.entries ∙ sym (put_sought g.K.PartialEq.eq g.met.K.HashKey.tells _ _ c.place_of.ensures.distinct _ c.in-Some.ensures.sought c.args.value)

pub returns-then-free-eq0-clause-result : goal.returns-then-free-eq0-clause-result
returns-then-free-eq0-clause-result g c =
    sym (or_from _ _ (ap is_some (lookup_none g.K.PartialEq.eq _ _ c.in_default.ensures.sought)) (le-ltb _ _ (omega arith)))

pub append-requires-clause-fresh : goal.append-requires-clause-fresh
append-requires-clause-fresh g c = distinct_push g.K.PartialEq.eq g.met.K.HashKey.tells _ _ c.place_of.ensures.distinct _ refl c.in_default.ensures.sought

pub returns-clause-entries : goal.returns-clause-entries
returns-clause-entries g c = c.append.ensures.entries ∙ sym (put_none g.K.PartialEq.eq _ c.args.key c.args.value c.in_default.ensures.sought)
