use Rattle.std.proofs.Common.{subst}
use Rattle.std.proofs.lemmas.Result.{err_from_is_err_and}
use Rattle.session_script.specs.Lines.{about_root, root_end}
use Rattle.answer_lines.specs.Writing.{Writes}
use Rattle.answer_lines.proofs.Writings.{ends, goes_on}
use Rattle.session_script.proofs.print.root.Goals as goal

pub returns-in_err-about_root : goal.returns-in_err-about_root
returns-in_err-about_root c =
    let p = err_from_is_err_and c.from_residual.result c.from_residual.ensures.1 in
    let front = about_root c.args.symbol in
    let h = subst (λ o. Writes c.args.out.now c.about_root.new.out o front) c.in_err-about_root.was c.about_root.ensures in
    rw (p.1, p.2) (ends _ _ _ front (root_end c.args.answer) h)

pub returns : goal.returns
returns c =
    let front = about_root c.args.symbol in
    let h = subst (λ o. Writes c.args.out.now c.about_root.new.out o front) c.in_ok-about_root.was c.about_root.ensures in
    goes_on _ _ _ _ front (root_end c.args.answer) h c.root_end.ensures
