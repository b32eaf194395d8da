use Rattle.std.proofs.Common.{rules, tests}
use Rattle.std.proofs.lemmas.Iterator.{YieldsList-from_slice}
use Rattle.line_text.proofs.Digits.{reads}
use Rattle.line_text.proofs.numeral.number.Goals as goal

pub returns : goal.returns
returns c = reads _ _ (λ y. y.now) _ _ (λ n x r q k. search (rules, tests)) _ _ c.iter.result c.args.digits.now c.try_fold.ensures.ran (YieldsList-from_slice _ (cc)) (search (rules, tests))
