use Rattle.std.proofs.Common.{◌≡◌, ◌-◌, ◌≤◌, true}
use Rattle.names.specs.Forms.{Suffix}
use Rattle.names.specs.Spelt.{spelt}
use Rattle.conflict_resolver.specs.Held.{held, room, slots}
use Rattle.conflict_resolver.specs.Records.{has_free}
use Rattle.conflict_resolver.specs.Rules.{run, next}
use Rattle.conflict_resolver.proofs.resolver.ConflictResolver.search_forms.Given as goal

-- what the probes to come find is what they would have found from the start
abbrev pub invariant-loop-probes : goal.invariant-loop-probes
invariant-loop-probes g l = let v = g.P.Policy.vetoes l.policy in
    Suffix l.conflict_index × (1 ≤ l.probes) × (has_free (room l.self) (held l.self) ≡ true) × (room l.self ≡ room l.initial.self) × (slots l.self ≡ slots l.initial.self)
    × (run v (spelt l.base) (4097 - l.probes) (next (held l.self) l.conflict_index (l.probes - 1)) ≡ run v (spelt l.base) 4096 (next (held l.initial.self) l.initial.conflict_index 0))
