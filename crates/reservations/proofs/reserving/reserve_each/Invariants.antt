use Rattle.std.proofs.Common.{map, drop, Result}
use Rattle.names.specs.declared.refusal.Refusal.{Refusal}
use Rattle.reservations.specs.Reserving.{Reserves}
use Rattle.reservations.proofs.reserving.reserve_each.Given as goal

-- whatever reserving the names that are left leaves and answers, reserving all of them from the start does
abbrev pub invariant-loop-row : goal.invariant-loop-row
invariant-loop-row g l =
    (s : _) (o : Result (Unit {0}) Refusal) → Reserves l.to s o (map g.T.Text.spells (drop l.row-index l.rows)) → Reserves l.initial.to s o (map g.T.Text.spells l.rows)
