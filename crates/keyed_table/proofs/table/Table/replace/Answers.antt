use Rattle.std.proofs.Common.{◌≡◌, length, get_or, set, sym, ap, ◌∙◌, subst, arith}
use Rattle.keyed_table.specs.declared.slot.Entry.{Entry}
use Rattle.keyed_table.specs.Contents.{Contents}
use Rattle.keyed_table.proofs.Views.{length_held}
use Rattle.keyed_table.proofs.Wires.{wired_replaced, held_replaced}
use Rattle.keyed_table.proofs.table.Table.replace.Goals as goal

-- the place is below the length
pub index_mut-requires : goal.index_mut-requires
index_mut-requires g c =
    let w = c.self.invariant.within in
    omega (arith, length_held _ _ c.self.invariant, ap (λ (t : Contents g.row.K.Denot g.row.V.Denot). length t.entries) c.self.view_is)

pub invariant_of-self : goal.invariant_of-self
invariant_of-self g c =
    wired_replaced _ _ _ c.self.invariant _ c.args.entry _ (omega (arith, length_held _ _ c.self.invariant, ap (λ (t : Contents g.row.K.Denot g.row.V.Denot). length t.entries) c.self.view_is)) c.index_mut.ensures.value
    (subst (λ (t : Contents g.row.K.Denot g.row.V.Denot). (d : Entry g.row.K.Denot g.row.V.Denot) → (get_or t.entries c.args.i d).key ≡ c.args.entry.key) (sym c.self.view_is) c.requires.key)

pub returns-clause-entries : goal.returns-clause-entries
returns-clause-entries g c =
    held_replaced g.K.HashKey.hashed _ _ c.self.invariant _ c.args.entry _ (omega (arith, length_held _ _ c.self.invariant, ap (λ (t : Contents g.row.K.Denot g.row.V.Denot). length t.entries) c.self.view_is)) c.index_mut.ensures.value
    ∙ ap (λ (t : Contents g.row.K.Denot g.row.V.Denot). set t.entries c.args.i c.args.entry) c.self.view_is
