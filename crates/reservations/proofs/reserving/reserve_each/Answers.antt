use Rattle.std.proofs.Common.{map, Ok, subst, sym}
use Rattle.std.proofs.lemmas.List.{drop_all}
use Rattle.reservations.specs.Reserving.{Reserves}
use Rattle.reservations.proofs.Chained.{nothing}
use Rattle.reservations.proofs.reserving.reserve_each.Goals as goal

pub returns : goal.returns
returns g c =
    let t = c.loop-row.to in
    c.loop-row.invariant t (Ok tt) (subst (λ xs. Reserves t t (Ok tt) (map g.T.Text.spells xs)) (sym (drop_all c.loop-row.row-index c.args.rows.now c.loop-row-test.false)) (nothing t))
