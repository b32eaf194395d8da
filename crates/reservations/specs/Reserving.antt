-- Names reserved one after another. Assumes nothing.
use Rattle.std.specs.Prelude.{◌≡◌, ℕ, List, [], ◌∷◌, Result}
use Rattle.names.specs.declared.refusal.Refusal.{Refusal}
use Rattle.conflict_resolver.specs.Answers.{settled}
use Rattle.conflict_resolver.specs.Held.{held, room as room_of, slots as slots_of}
use Rattle.conflict_resolver.specs.declared.resolver.ConflictResolver.{ConflictResolver}
use Rattle.conflict_resolver.specs.Records.{Record}
use Rattle.conflict_resolver.specs.Rules.{Reservation, made, declined, reserved}

-- a reservation goes on with the records that the one before it left, or ends with its refusal
abbrev pub following : Reservation → (List Record → Reservation) → Reservation
following (made es) go = go es
following (declined es why) go = declined es why

-- each of the names is reserved, where at most so many may be on record
abbrev pub reserve_each : ℕ → List Record → List (List ℕ) → Reservation
reserve_each most es [] = made es
reserve_each most es (n ∷ ns) = following (reserved most es n) (λ fs. reserve_each most fs ns)

-- what reserving the names leaves of a resolver r, and what it answers
pub record Reserves (r s : ConflictResolver) (answer : Result (Unit {0}) Refusal) (ns : List (List ℕ)) : Type 0 where
  pub rules : settled answer (held s) ≡ reserve_each (room_of r) (held r) ns
  pub room : room_of s ≡ room_of r
  pub slots : slots_of s ≡ slots_of r
