-- What the calls of a resolver answer, in the words of the rules. Assumes nothing.
use Rattle.std.specs.Prelude.{ℕ, ◌≡◌, ◌≤◌, true, List, Some, None, Ok, Err, Option, Result}
use Rattle.names.specs.Refusals.{number_of}
use Rattle.names.specs.Spelt.{spelt}
use Rattle.names.specs.declared.refusal.Refusal.{Refusal}
use Rattle.conflict_resolver.specs.Held.{held, room}
use Rattle.conflict_resolver.specs.Records.{Record, has_free}
use Rattle.conflict_resolver.specs.Rules.{Outcome, State, Reservation, next, done, granted, refused, made, declined}
use Rattle.conflict_resolver.specs.declared.resolver.ConflictResolver.{ConflictResolver}
use Rattle.conflict_resolver.specs.declared.resolver.search.Resolved.{Resolved}

-- the state after p probes, where the last look was at c and left the records fs
abbrev pub looked : Result (Option ℕ) Refusal → List Record → List ℕ → ℕ → State
looked (Ok (Some k)) fs c p = next fs k p
looked (Ok None) fs c p = done (granted fs c p)
looked (Err e) fs c p = done (refused fs (number_of e))

-- where the search goes on, the number is that of a form, and a record is still free
abbrev pub Going : Result (Option ℕ) Refusal → ConflictResolver → Type 0
Going (Ok (Some k)) t = (1 ≤ k) × (k ≤ 9999) × (has_free (room t) (held t) ≡ true)
Going (Ok None) t = Unit {0}
Going (Err e) t = Unit {0}

-- the outcome that an answer tells, with the records fs after it
abbrev pub answered : Result Resolved Refusal → List Record → Outcome
answered (Ok f) fs = granted fs (spelt f.name) f.probes
answered (Err e) fs = refused fs (number_of e)

-- the end of a reservation that an answer tells, with the records fs after it
abbrev pub settled : Result (Unit {0}) Refusal → List Record → Reservation
settled (Ok u) fs = made fs
settled (Err e) fs = declined fs (number_of e)
