use Rattle.std.proofs.Common.{Some, Ok, sym, ap, ◌∙◌, subst, arith}
use Rattle.std.proofs.lemmas.Result.{err_from_is_err_and}
use Rattle.names.specs.Refusals.{number_of}
use Rattle.names.specs.Spelt.{spelt}
use Rattle.conflict_resolver.specs.Answers.{looked, Going}
use Rattle.conflict_resolver.specs.Held.{held}
use Rattle.conflict_resolver.specs.Rules.{granted, refused, next, done}
use Rattle.conflict_resolver.proofs.Searches.{turns, finds, runs_out, at_form}
use Rattle.conflict_resolver.proofs.resolver.ConflictResolver.search_forms.Goals as goal

pub loop-probes-preserved : goal.loop-probes-preserved
loop-probes-preserved g c =
    let v = g.P.Policy.vetoes c.args.policy.now in
    let b = spelt c.args.base.now in
    let es = held c.loop-probes.self in
    let fs = held c.look.new.self in
    let d = spelt c.in-Some.candidate in
    let k = c.loop-probes.conflict_index in
    let q = c.loop-probes.probes in
    let j = c.in-Some-2.k in
    let was = c.in_ok-k.was ∙ ap Ok c.in-Some-2.is in
    let going : Going (Ok (Some j)) c.look.new.self = subst (λ r. Going r c.look.new.self) was c.look.ensures.going in
    let e = at_form v b es k q d (next fs j q) c.loop-probes.invariant.0.0 c.loop-probes.invariant.1 c.in-Some.ensures.2.spells (ap (λ r. looked r fs d q) (sym was) ∙ c.look.ensures.follows q) in (
      (going.0, going.1),
      omega arith,
      going.2,
      c.look.ensures.room ∙ c.loop-probes.invariant.3,
      c.look.ensures.slots ∙ c.loop-probes.invariant.4,
      turns v b es fs k j q c.loop-probes-test.true e ∙ c.loop-probes.invariant.5,
    )

pub returns-in_err-k-clause-runs : goal.returns-in_err-k-clause-runs
returns-in_err-k-clause-runs g c =
    let v = g.P.Policy.vetoes c.args.policy.now in
    let b = spelt c.args.base.now in
    let es = held c.loop-probes.self in
    let fs = held c.look.new.self in
    let d = spelt c.in-Some.candidate in
    let k = c.loop-probes.conflict_index in
    let q = c.loop-probes.probes in
    let o = refused fs (number_of c.in_err-k.field-0.0) in
    let e = at_form v b es k q d (done o) c.loop-probes.invariant.0.0 c.loop-probes.invariant.1 c.in-Some.ensures.2.spells (c.in_err-k.ensures.follows q) in
    let p = err_from_is_err_and c.from_residual.result c.from_residual.ensures.1 in
    rw (p.1, p.2) (finds v b es k q o c.loop-probes-test.true e ∙ c.loop-probes.invariant.5)

pub returns-in-None-clause-runs : goal.returns-in-None-clause-runs
returns-in-None-clause-runs g c =
    let v = g.P.Policy.vetoes c.args.policy.now in
    let b = spelt c.args.base.now in
    let es = held c.loop-probes.self in
    let fs = held c.look.new.self in
    let d = spelt c.in-Some.candidate in
    let k = c.loop-probes.conflict_index in
    let q = c.loop-probes.probes in
    let was = c.in_ok-k.was ∙ ap Ok c.in-None.is in
    let o = granted fs d q in
    let e = at_form v b es k q d (done o) c.loop-probes.invariant.0.0 c.loop-probes.invariant.1 c.in-Some.ensures.2.spells (ap (λ r. looked r fs d q) (sym was) ∙ c.look.ensures.follows q) in
    finds v b es k q o c.loop-probes-test.true e ∙ c.loop-probes.invariant.5

pub returns-clause-runs : goal.returns-clause-runs
returns-clause-runs g c =
    let v = g.P.Policy.vetoes c.args.policy.now in
    let b = spelt c.args.base.now in
    runs_out v b (held c.loop-probes.self) c.loop-probes.conflict_index c.loop-probes.probes _ (omega arith) ∙ c.loop-probes.invariant.5
