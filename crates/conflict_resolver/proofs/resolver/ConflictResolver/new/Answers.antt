use Rattle.conflict_resolver.proofs.Rows.{once_none}
use Rattle.conflict_resolver.proofs.resolver.ConflictResolver.new.Goals as goal

pub invariant_of-result-clause-once : goal.invariant_of-result-clause-once
invariant_of-result-clause-once c = ∣ once_none _ c.new-used.ensures.entries ∣₁
