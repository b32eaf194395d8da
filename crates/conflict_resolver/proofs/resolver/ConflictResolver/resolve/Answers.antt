use Rattle.std.proofs.Common.{◌≡◌, ℕ, Bool, List, Ok, sym, refl, ap, ◌∙◌}
use Rattle.std.proofs.lemmas.Result.{err_from_is_err_and}
use Rattle.names.specs.Refusals.{number_of}
use Rattle.names.specs.Spelt.{spelt}
use Rattle.conflict_resolver.specs.Answers.{looked, answered}
use Rattle.conflict_resolver.specs.Held.{held, room}
use Rattle.conflict_resolver.specs.Records.{Record}
use Rattle.conflict_resolver.specs.Rules.{Outcome, granted, refused, next, searched}
use Rattle.conflict_resolver.specs.Laws.{Sound, Bounded}
use Rattle.conflict_resolver.proofs.Searches.{no_base, no_room, begins, ends_at_once, sound_of, bounded_of}
use Rattle.conflict_resolver.proofs.resolver.ConflictResolver.resolve.Goals as goal

-- the laws, with the outcome that the rules compute
promised : (v : List ℕ → Bool → Bool) (b : List ℕ) (n m : ℕ) (es : List Record) (o : Outcome) {i j : ℕ} → o ≡ searched v b n es → m ≡ n → i ≡ j
    → record { follows_the_rules : o ≡ searched v b n es; grants_a_new_unvetoed_name : Sound v b es o; probes_are_bounded : Bounded v b es o; room : m ≡ n; slots : i ≡ j }
promised v b n m es o e r s = record { follows_the_rules = e; grants_a_new_unvetoed_name = sound_of v b n es o e; probes_are_bounded = bounded_of v b n es o e; room = r; slots = s }

pub returns-then-not-is_base : goal.returns-then-not-is_base
returns-then-not-is_base g c =
    let v = g.P.Policy.vetoes c.args.policy.now in
    let b = spelt c.args.base.now in
    let es = held c.args.self.now in
    let n = room c.args.self.now in
    promised v b n n es (refused es 7) (no_base v b n es (sym c.if-not-is_base.ensures)) refl refl

pub returns-then-not-has_free_record : goal.returns-then-not-has_free_record
returns-then-not-has_free_record g c =
    let v = g.P.Policy.vetoes c.args.policy.now in
    let b = spelt c.args.base.now in
    let es = held c.args.self.now in
    let n = room c.args.self.now in
    promised v b n n es (refused es 10) (no_room v b n es (sym c.if-not-is_base.ensures) (sym c.if-not-has_free_record.ensures)) refl refl

pub returns-in_err-first : goal.returns-in_err-first
returns-in_err-first g c =
    let v = g.P.Policy.vetoes c.args.policy.now in
    let b = spelt c.args.base.now in
    let es = held c.args.self.now in
    let n = room c.args.self.now in
    let o = refused (held c.look.new.self) (number_of c.in_err-first.field-0.0) in
    let p = err_from_is_err_and c.from_residual.result c.from_residual.ensures.1 in
    let is : answered c.from_residual.result (held c.look.new.self) ≡ o = rw (p.1, p.2) refl in
    promised v b n _ es (answered c.from_residual.result (held c.look.new.self)) (is ∙ ends_at_once v b n es o (sym c.if-not-is_base.ensures) (sym c.if-not-has_free_record.ensures) (c.in_err-first.ensures.follows 0)) c.look.ensures.room c.look.ensures.slots

pub returns-in-Some : goal.returns-in-Some
returns-in-Some g c =
    let v = g.P.Policy.vetoes c.args.policy.now in
    let b = spelt c.args.base.now in
    let es = held c.args.self.now in
    let n = room c.args.self.now in
    let fs = held c.look.new.self in
    let was = c.in_ok-first.was ∙ ap Ok c.in-Some.is in
    let st = ap (λ r. looked r fs b 0) (sym was) ∙ c.look.ensures.follows 0 in
    let o = answered c.search_forms.result (held c.search_forms.new.self) in
    promised v b n _ es o (c.search_forms.ensures.runs ∙ begins v b n es (next fs c.in-Some.first 0) (sym c.if-not-is_base.ensures) (sym c.if-not-has_free_record.ensures) st) (c.search_forms.ensures.room ∙ c.look.ensures.room) (c.search_forms.ensures.slots ∙ c.look.ensures.slots)

pub returns-in-None : goal.returns-in-None
returns-in-None g c =
    let v = g.P.Policy.vetoes c.args.policy.now in
    let b = spelt c.args.base.now in
    let es = held c.args.self.now in
    let n = room c.args.self.now in
    let fs = held c.look.new.self in
    let was = c.in_ok-first.was ∙ ap Ok c.in-None.is in
    let st = ap (λ r. looked r fs b 0) (sym was) ∙ c.look.ensures.follows 0 in
    promised v b n _ es (granted fs b 0) (ends_at_once v b n es (granted fs b 0) (sym c.if-not-is_base.ensures) (sym c.if-not-has_free_record.ensures) st) c.look.ensures.room c.look.ensures.slots
