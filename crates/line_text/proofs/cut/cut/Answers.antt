use Rattle.std.proofs.Common.{rules, tests, arith, ◌==◌}
use Rattle.std.proofs.lemmas.Grind.{common_steps}
use Rattle.std.proofs.lemmas.Iterator.{YieldsList-from_slice}
use Rattle.std.proofs.lemmas.Iterator.Search.{position_from_yields_List}
use Rattle.line_text.proofs.cut.cut.Goals as goal

pub returns-in-Some : goal.returns-in-Some
returns-in-Some c =
    let told = position_from_yields_List (λ x. x == c.args.at) _ _ c.position.result c.position.ensures.ran (YieldsList-from_slice c.args.text.now (cc)) (λ x b q k. search (rules, tests)) in
    record {
      before = grind (arith, common_steps);
      behind = grind (arith, common_steps);
    }

pub returns-in-None : goal.returns-in-None
returns-in-None c =
    let told = position_from_yields_List (λ x. x == c.args.at) _ _ c.position.result c.position.ensures.ran (YieldsList-from_slice c.args.text.now (cc)) (λ x b q k. search (rules, tests)) in
    record {
      before = grind (arith, common_steps);
      behind = grind (arith, common_steps);
    }
