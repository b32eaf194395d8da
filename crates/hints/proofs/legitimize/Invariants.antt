use Rattle.std.proofs.Common.{◌≡◌, ◌++◌, take, drop}
use Rattle.hints.specs.Hints.{cleaned}
use Rattle.hints.proofs.legitimize.Given as goal

abbrev pub invariant-loop-i : goal.invariant-loop-i
invariant-loop-i l = l.out ≡ cleaned (take l.i l.name) ++ drop l.i l.initial.out
