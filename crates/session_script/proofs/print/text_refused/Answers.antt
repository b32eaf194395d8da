use Rattle.std.proofs.Common.{subst}
use Rattle.std.proofs.lemmas.Result.{err_from_is_err_and}
use Rattle.answer_lines.specs.Lines.{refused_line}
use Rattle.session_script.specs.Lines.{about_text}
use Rattle.answer_lines.specs.Writing.{Writes}
use Rattle.answer_lines.proofs.Writings.{ends, goes_on}
use Rattle.session_script.proofs.print.text_refused.Goals as goal

pub returns-in_err-about_text : goal.returns-in_err-about_text
returns-in_err-about_text c =
    let p = err_from_is_err_and c.from_residual.result c.from_residual.ensures.1 in
    let front = about_text c.args.verb.now c.args.text.now in
    let h = subst (λ o. Writes c.args.out.now c.about_text.new.out o front) c.in_err-about_text.was c.about_text.ensures in
    rw (p.1, p.2) (ends _ _ _ front (refused_line c.args.refusal) h)

pub returns : goal.returns
returns c =
    let front = about_text c.args.verb.now c.args.text.now in
    let h = subst (λ o. Writes c.args.out.now c.about_text.new.out o front) c.in_ok-about_text.was c.about_text.ensures in
    goes_on _ _ _ _ front (refused_line c.args.refusal) h c.refused.ensures
