use Rattle.std.proofs.Common.{rules}
use Rattle.std.proofs.lemmas.Fn.{always_returns_same}
use Rattle.keys.proofs.Risings.{rising_told}
use Rattle.keys.proofs.ascend.ascends.Goals as goal

pub returns : goal.returns
returns g c =
    rising_told g.K.OrderedKey.under c.args.keys.now c.is_sorted_by.result
    (c.is_sorted_by.ensures.cases g.K.OrderedKey.under (always_returns_same _ _ _ (λ a r f k. let t = g.met.K.OrderedKey.agrees a.0.now a.1.0.now in search rules)))
