use Rattle.std.proofs.Common.{◌≡◌, ℕ, ◌<◌, get_or}
use Rattle.keyed_table.specs.Links.{blank}
use Rattle.keyed_table.specs.declared.slot.Slot.{Slot}
use Rattle.keyed_table.proofs.slot.wipe.Given as goal

abbrev pub invariant-loop-slot : goal.invariant-loop-slot
invariant-loop-slot g l = (k : ℕ) (d : Slot g.row.K.Denot g.row.V.Denot) → k < l.slot-index → get_or l.slots k d ≡ blank
