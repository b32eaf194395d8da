use Rattle.std.proofs.Common.{◌≡◌, take, drop}
use Rattle.conflict_resolver.specs.Held.{rows}
use Rattle.conflict_resolver.proofs.resolver.ConflictResolver.copy_out.Given as goal

-- the records so far stand at the front, and what stands behind them is as it was
abbrev pub invariant-loop-i : goal.invariant-loop-i
invariant-loop-i l = (take l.i l.out ≡ take l.i (rows l.self)) × (drop l.i l.out ≡ drop l.i l.initial.out)
