use Rattle.std.proofs.lemmas.Result.{err_from_is_err_and}
use Rattle.renamer.specs.State.{chunk_in, session_of}
use Rattle.names.specs.Spelt.{spelt}
use Rattle.conflict_resolver.specs.Held.{held, room}
use Rattle.renamer.proofs.Endings.{long_search}
use Rattle.renamer.proofs.Staying.{over_search}
use Rattle.renamer.proofs.renamer.Renamer.resolve.Goals as goal

pub returns-in_err-base-clause-rules : goal.returns-in_err-base-clause-rules
returns-in_err-base-clause-rules g c =
    let p = err_from_is_err_and c.from_residual.result c.from_residual.ensures.1 in
    rw (p.1, p.2) (long_search (g.P.Policy.vetoes c.args.policy.now) (chunk_in c.args.self.now) (session_of c.args.self.now) c.args.base.now _ c.in_err-base.ensures.0 c.in_err-base.ensures.1)

pub invariant_of-self-clause-opened : goal.invariant_of-self-clause-opened
invariant_of-self-clause-opened g c =
    let r = c.args.self.now in
    over_search (chunk_in r) (session_of r) r.opened (g.P.Policy.vetoes c.args.policy.now) (spelt c.in_ok-base.base) (room r.resolver) c.resolve.result (held c.resolve.new.self) r.limit c.resolve.ensures.follows_the_rules
