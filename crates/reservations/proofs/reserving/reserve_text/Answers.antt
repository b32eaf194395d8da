use Rattle.std.proofs.Common.{◌∙◌, ap}
use Rattle.std.proofs.lemmas.Result.{err_from_is_err_and}
use Rattle.conflict_resolver.specs.Held.{held, room}
use Rattle.conflict_resolver.specs.Rules.{declined}
use Rattle.conflict_resolver.proofs.Reservations.{reserve_no_name}
use Rattle.reservations.proofs.Long.{no_base}
use Rattle.reservations.proofs.reserving.reserve_text.Goals as goal

pub returns-in_err-name-clause-rules : goal.returns-in_err-name-clause-rules
returns-in_err-name-clause-rules c =
    let p = err_from_is_err_and c.from_residual.result c.from_residual.ensures.1 in
    let t = c.args.to.now in
    rw (p.1, p.2) (ap (declined (held t)) c.in_err-name.ensures.0 ∙ reserve_no_name (room t) (held t) c.args.text.now (no_base c.args.text.now c.in_err-name.ensures.1))
