use Rattle.std.proofs.Common.{ap, ◌∙◌}
use Rattle.std.proofs.lemmas.Result.{err_from_is_err_and}
use Rattle.names.specs.Spelt.{spelt}
use Rattle.chunk_tables.specs.View.{chunk_of}
use Rattle.conflict_resolver.specs.Held.{held, room}
use Rattle.conflict_resolver.specs.Rules.{searched}
use Rattle.policies.specs.File.{file_vetoes}
use Rattle.renamer.specs.State.{chunk_in, session_of}
use Rattle.renamer.proofs.Endings.{long_search}
use Rattle.renamer.proofs.Staying.{over_search}
use Rattle.renamer.proofs.renamer.Renamer.create_conflictless_name.Goals as goal

pub returns-in_err-hint-clause-rules : goal.returns-in_err-hint-clause-rules
returns-in_err-hint-clause-rules c =
    let p = err_from_is_err_and c.from_residual.result c.from_residual.ensures.1 in
    let C = chunk_in c.args.self.now in
    rw (p.1, p.2) (long_search (file_vetoes C) C (session_of c.args.self.now) c.args.hint.now _ c.in_err-hint.ensures.0 c.in_err-hint.ensures.1)

pub invariant_of-self-clause-opened : goal.invariant_of-self-clause-opened
invariant_of-self-clause-opened c =
    let r = c.args.self.now in
    let h = spelt c.in_ok-hint.hint in
    let sought = c.resolve.ensures.follows_the_rules ∙ ap (λ k. searched (file_vetoes (chunk_of k)) h (room r.resolver) (held r.resolver)) (c.file-policy.ensures ∙ r.of_the_chunk) in
    over_search (chunk_in r) (session_of r) r.opened (file_vetoes (chunk_in r)) h (room r.resolver) c.resolve.result (held c.resolve.new.self) r.limit sought
