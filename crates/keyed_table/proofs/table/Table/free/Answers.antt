use Rattle.std.proofs.Common.{length, ap, arith}
use Rattle.keyed_table.specs.Contents.{Contents}
use Rattle.keyed_table.proofs.Views.{length_held}
use Rattle.keyed_table.proofs.table.Table.free.Goals as goal

pub returns : goal.returns
returns g c =
    let w = c.self.invariant.within in
    omega (arith, length_held _ _ c.self.invariant, ap (λ (t : Contents g.row.K.Denot g.row.V.Denot). length t.entries) c.self.view_is, ap (λ (t : Contents g.row.K.Denot g.row.V.Denot). length t.memory) c.self.view_is)
