use Rattle.keyed_table.proofs.Latest.{upto}
use Rattle.keyed_table.proofs.Seeks.{Seeking}
use Rattle.keyed_table.proofs.table.Table.place_of.Given as goal

abbrev pub invariant-loop-at : goal.invariant-loop-at
invariant-loop-at g l = Seeking g.K.PartialEq.eq g.K.HashKey.hashed l.self-inside.slots.items l.self-inside.len l.key l.at

abbrev pub decreases-loop-at : goal.decreases-loop-at
decreases-loop-at g l = upto l.at
