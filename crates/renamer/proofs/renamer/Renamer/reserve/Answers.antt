use Rattle.std.proofs.lemmas.Result.{err_from_is_err_and}
use Rattle.renamer.specs.State.{chunk_in, session_of}
use Rattle.names.specs.Spelt.{spelt}
use Rattle.conflict_resolver.specs.Held.{held, room}
use Rattle.renamer.proofs.Endings.{long_reservation}
use Rattle.renamer.proofs.Staying.{over_reservation}
use Rattle.renamer.proofs.renamer.Renamer.reserve.Goals as goal

pub returns-in_err-name-clause-rules : goal.returns-in_err-name-clause-rules
returns-in_err-name-clause-rules c =
    let p = err_from_is_err_and c.from_residual.result c.from_residual.ensures.1 in
    rw (p.1, p.2) (long_reservation (chunk_in c.args.self.now) (session_of c.args.self.now) c.args.name.now _ c.in_err-name.ensures.0 c.in_err-name.ensures.1)

pub invariant_of-self-clause-opened : goal.invariant_of-self-clause-opened
invariant_of-self-clause-opened c =
    let r = c.args.self.now in
    over_reservation (chunk_in r) (session_of r) r.opened (spelt c.in_ok-name.name) (room r.resolver) c.reserve.result (held c.reserve.new.self) r.limit c.reserve.ensures.rules
