use Rattle.std.proofs.Common.{ap, ◌∙◌}
use Rattle.names.specs.Spelt.{spelt}
use Rattle.chunk_tables.specs.View.{chunk_of}
use Rattle.conflict_resolver.specs.Held.{held, room}
use Rattle.conflict_resolver.specs.Rules.{searched}
use Rattle.policies.specs.File.{file_vetoes}
use Rattle.policies.specs.OwnModule.{own_module_vetoes}
use Rattle.session_rules.specs.Vetoes.{kind_vetoes}
use Rattle.renamer.specs.State.{chunk_in, session_of}
use Rattle.renamer.proofs.Staying.{over_search}
use Rattle.renamer.proofs.renamer.Renamer.resolve_symbol.Goals as goal

pub invariant_of-self-clause-opened : goal.invariant_of-self-clause-opened
invariant_of-self-clause-opened c =
    let r = c.args.self.now in
    let b = spelt c.args.base.now in
    let p = c.own_module-policy in
    let sought = c.resolve.ensures.follows_the_rules ∙ ap (λ k. searched (own_module_vetoes (chunk_of k) p.result.owner) b (room r.resolver) (held r.resolver)) (p.ensures.0 ∙ r.of_the_chunk)
    ∙ ap (λ m. searched (own_module_vetoes (chunk_in r) m) b (room r.resolver) (held r.resolver)) p.ensures.1 in
    over_search (chunk_in r) (session_of r) r.opened (own_module_vetoes (chunk_in r) c.args.canonical.owner) b (room r.resolver) c.resolve.result (held c.resolve.new.self) r.limit sought

pub invariant_of-self-in-Synthesized-clause-opened : goal.invariant_of-self-in-Synthesized-clause-opened
invariant_of-self-in-Synthesized-clause-opened c =
    let r = c.args.self.now in
    let b = spelt c.args.base.now in
    let sought = c.resolve-in-Synthesized.ensures.follows_the_rules ∙ ap (λ k. searched (file_vetoes (chunk_of k)) b (room r.resolver) (held r.resolver)) (c.file-policy.ensures ∙ r.of_the_chunk) in
    over_search (chunk_in r) (session_of r) r.opened (file_vetoes (chunk_in r)) b (room r.resolver) c.resolve-in-Synthesized.result (held c.resolve-in-Synthesized.new.self) r.limit sought
