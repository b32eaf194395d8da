use Rattle.std.proofs.Common.{rules, tests, arith}
use Rattle.std.proofs.lemmas.Iterator.{YieldsList-from_slice}
use Rattle.std.proofs.lemmas.Iterator.Search.{any_from_yields_List}
use Rattle.names.specs.Spelt.{spelt}
use Rattle.vetoes.specs.Vetoes.{bars}
use Rattle.vetoes.proofs.VetoesPolicy.vetoed.Goals as goal

pub returns-else-self : goal.returns-else-self
returns-else-self c =
    let told = any_from_yields_List (bars (spelt c.args.candidate.now) c.args.bare) _ _ c.any.result c.any.ensures.ran (YieldsList-from_slice c.args.self.now.listed.items (cc)) (λ x b q k. search (rules, tests)) in
    grind arith
