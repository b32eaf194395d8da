use Rattle.std.proofs.Common.{codes, subst}
use Rattle.std.proofs.lemmas.Result.{err_from_is_err_and}
use Rattle.answer_lines.specs.Lines.{refused_line}
use Rattle.answer_lines.specs.Writing.{Writes}
use Rattle.answer_lines.proofs.Writings.{ends, goes_on}
use Rattle.session_script.proofs.print.names_refused.Goals as goal

pub returns-in_err-write_each : goal.returns-in_err-write_each
returns-in_err-write_each c =
    let p = err_from_is_err_and c.from_residual.result c.from_residual.ensures.1 in
    let front = codes "names " in
    let h = subst (λ o. Writes c.args.out.now c.write_each.new.out o front) c.in_err-write_each.was c.write_each.ensures in
    rw (p.1, p.2) (ends _ _ _ front (refused_line c.args.refusal) h)

pub returns : goal.returns
returns c =
    let front = codes "names " in
    let h = subst (λ o. Writes c.args.out.now c.write_each.new.out o front) c.in_ok-write_each.was c.write_each.ensures in
    goes_on _ _ _ _ front (refused_line c.args.refusal) h c.refused.ensures
