use Rattle.std.proofs.Common.{rules, tests, arith, ◌==◌, not}
use Rattle.std.proofs.lemmas.Grind.{common_steps}
use Rattle.std.proofs.lemmas.Iterator.{YieldsList-from_slice}
use Rattle.std.proofs.lemmas.Iterator.Search.{position_from_yields_List}
use Rattle.line_text.proofs.cut.trim_front.Goals as goal

pub returns-in-Some : goal.returns-in-Some
returns-in-Some c =
    let told = position_from_yields_List (λ x. not (x == 32)) _ _ c.position.result c.position.ensures.ran (YieldsList-from_slice c.args.text.now (cc)) (λ x b q k. search (rules, tests)) in
    grind (arith, common_steps)

pub returns-in-None : goal.returns-in-None
returns-in-None c =
    let told = position_from_yields_List (λ x. not (x == 32)) _ _ c.position.result c.position.ensures.ran (YieldsList-from_slice c.args.text.now (cc)) (λ x b q k. search (rules, tests)) in
    grind (arith, common_steps)
