use Rattle.std.proofs.Common.{◌≡◌, take, drop}
use Rattle.keyed_table.specs.Links.{held}
use Rattle.keyed_table.proofs.listing.copy_out.Given as goal

abbrev pub invariant-loop-i : goal.invariant-loop-i
invariant-loop-i g l = (take l.i l.out ≡ held l.slots l.i) × (drop l.i l.out ≡ drop l.i l.initial.out)
