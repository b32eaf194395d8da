use Rattle.std.proofs.Common.{◌+◌, sym, ap, ◌∙◌, arith}
use Rattle.names.specs.Spelt.{spelt}
use Rattle.conflict_resolver.specs.Held.{held}
use Rattle.conflict_resolver.specs.Rules.{next, done, granted}
use Rattle.conflict_resolver.proofs.Looks.{follow_raises, follow_worn, follow_skips, follow_spent, follow_takes}
use Rattle.conflict_resolver.proofs.Lookups.{free_raised}
use Rattle.conflict_resolver.proofs.resolver.ConflictResolver.look.Goals as goal

pub returns-then-counter-ge-HIGHEST_NUMBER-clause-follows : goal.returns-then-counter-ge-HIGHEST_NUMBER-clause-follows
returns-then-counter-ge-HIGHEST_NUMBER-clause-follows g c p =
    sym (follow_worn (held c.args.self.now) (spelt c.args.candidate.now) c.args.k p _ _ c.in-Some.counter (sym c.in-Some.ensures) c.if-counter-ge-HIGHEST_NUMBER.true)

pub returns-in-Some-clause-follows : goal.returns-in-Some-clause-follows
returns-in-Some-clause-follows g c p =
    let es = held c.args.self.now in
    let n = c.in-Some.counter in
    ap (λ fs. next fs (n + 1) p) c.raise.ensures.records ∙ sym (follow_raises es (spelt c.args.candidate.now) c.args.k p _ _ n (sym c.in-Some.ensures) c.if-counter-ge-HIGHEST_NUMBER.false)

pub returns-in-Some-clause-going : goal.returns-in-Some-clause-going
returns-in-Some-clause-going g c =
    let raise = c.raise.ensures in
    (omega arith, omega (arith, c.if-counter-ge-HIGHEST_NUMBER.false), free_raised (held c.args.self.now) (held c.raise.new.self) (spelt c.args.candidate.now) _ _ raise.records raise.room c.requires.free)

pub returns-then-k-ge-HIGHEST_NUMBER-clause-follows : goal.returns-then-k-ge-HIGHEST_NUMBER-clause-follows
returns-then-k-ge-HIGHEST_NUMBER-clause-follows g c p =
    sym (follow_spent (held c.args.self.now) (spelt c.args.candidate.now) c.args.k p _ _ (sym c.in_default.ensures) (sym c.if-vetoed.ensures) c.if-k-ge-HIGHEST_NUMBER.true)

pub returns-then-vetoed-clause-follows : goal.returns-then-vetoed-clause-follows
returns-then-vetoed-clause-follows g c p =
    sym (follow_skips (held c.args.self.now) (spelt c.args.candidate.now) c.args.k p _ _ (sym c.in_default.ensures) (sym c.if-vetoed.ensures) c.if-k-ge-HIGHEST_NUMBER.false)

pub returns-clause-follows : goal.returns-clause-follows
returns-clause-follows g c p =
    let es = held c.args.self.now in
    let d = spelt c.args.candidate.now in
    ap (λ fs. done (granted fs d p)) c.put_on_record.ensures.records ∙ sym (follow_takes es d c.args.k p _ _ (sym c.in_default.ensures) (sym c.if-vetoed.ensures))
