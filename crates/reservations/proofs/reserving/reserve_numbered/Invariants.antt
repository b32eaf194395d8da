use Rattle.std.proofs.Common.{drop, Result}
use Rattle.std.specs.List.{flat_map}
use Rattle.names.specs.declared.refusal.Refusal.{Refusal}
use Rattle.chunk_tables.specs.View.{chunk_of}
use Rattle.reservations.specs.Reserved.{reserved_by_member}
use Rattle.reservations.specs.Reserving.{Reserves}
use Rattle.reservations.proofs.reserving.reserve_numbered.Given as goal

-- whatever reserving what is left leaves and answers, reserving all of it from the start does
abbrev pub invariant-loop-member : goal.invariant-loop-member
invariant-loop-member l =
    let by = reserved_by_member l.format (chunk_of l.chunk) in
    (s : _) (o : Result (Unit {0}) Refusal) → Reserves l.to s o (flat_map by (drop l.member-index l.members)) → Reserves l.initial.to s o (flat_map by l.members)
