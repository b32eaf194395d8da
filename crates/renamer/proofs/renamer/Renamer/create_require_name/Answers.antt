use Rattle.std.proofs.Common.{◌≡◌, false, ◌∷◌, ◌++◌, [], sym, ap, subst, ◌∙◌}
use Rattle.std.specs.Option.{option_map}
use Rattle.std.specs.List.{slice_get}
use Rattle.std.proofs.lemmas.Result.{err_from_is_err_and}
use Rattle.names.specs.Bases.{is_base}
use Rattle.names.specs.Refusals.{number_of}
use Rattle.names.specs.Spelt.{spelt}
use Rattle.chunk_tables.specs.View.{chunk_of, other_of}
use Rattle.hints.specs.Hints.{hint}
use Rattle.policies.specs.File.{file_vetoes}
use Rattle.session_rules.specs.Helpers.{helper_of}
use Rattle.session_rules.specs.Rules.{given, declines, answers, policy_named}
use Rattle.renamer.specs.Helpers.{helpers_in, is_other}
use Rattle.renamer.specs.State.{chunk_in, session_of, helper_entries, helpers_of}
use Rattle.renamer.proofs.Drawings.{has_helper, draws_helper, no_hint}
use Rattle.renamer.proofs.Others.{found_helper, at_place}
use Rattle.renamer.proofs.renamer.Renamer.create_require_name.Goals as goal

pub returns-in_default-already-clause-rules : goal.returns-in_default-already-clause-rules
returns-in_default-already-clause-rules c =
    let r = c.args.self.now in
    let there = ap (λ t. slice_get (chunk_of t).others c.args.place) (sym c.chunk.ensures.tables) ∙ sym c.other_at.ensures ∙ ap (option_map (λ o. other_of o.now)) c.in-Some.is in
    let has = sym (found_helper (helper_entries r) c.in-Some.other.now.index) ∙ ap (option_map spelt) (sym c.find-already.ensures ∙ c.unwrap.ensures) in
    has_helper (chunk_in r) (session_of r) (helpers_of r) c.args.place (other_of c.in-Some.other.now) there _ has

pub returns-in_err-hint-clause-rules : goal.returns-in_err-hint-clause-rules
returns-in_err-hint-clause-rules c =
    let r = c.args.self.now in
    let p = err_from_is_err_and c.from_residual.result c.from_residual.ensures.1 in
    let there = ap (λ t. slice_get (chunk_of t).others c.args.place) (sym c.chunk.ensures.tables) ∙ sym c.other_at.ensures ∙ ap (option_map (λ o. other_of o.now)) c.in-Some.is in
    let none = sym (found_helper (helper_entries r) c.in-Some.other.now.index) ∙ ap (option_map spelt) (sym c.find-already.ensures ∙ c.in-None.is) in
    let baseless = subst (λ n. is_base (hint n) ≡ false) c.as_slice.ensures.value c.in_err-hint.ensures.1 in
    rw (p.1, p.2) (no_hint (chunk_in r) (session_of r) (helpers_of r) c.args.place (other_of c.in-Some.other.now) there none _ c.in_err-hint.ensures.0 baseless)

pub returns-in_err-resolved-clause-rules : goal.returns-in_err-resolved-clause-rules
returns-in_err-resolved-clause-rules c =
    let r = c.args.self.now in
    let s = c.create_conflictless_name.new.self in
    let C = chunk_in r in
    let p = err_from_is_err_and c.from_residual-in_err-resolved.result c.from_residual-in_err-resolved.ensures.1 in
    let there = ap (λ t. slice_get (chunk_of t).others c.args.place) (sym c.chunk.ensures.tables) ∙ sym c.other_at.ensures ∙ ap (option_map (λ o. other_of o.now)) c.in-Some.is in
    let none = sym (found_helper (helper_entries r) c.in-Some.other.now.index) ∙ ap (option_map spelt) (sym c.find-already.ensures ∙ c.in-None.is) in
    let hinted = c.as_bytes.ensures ∙ c.in_ok-hint.ensures.0 ∙ ap hint c.as_slice.ensures.value in
    let t = answers (declines (number_of c.in_err-resolved.field-0.0)) (session_of s) in
    let told = c.in_err-resolved.ensures.rules ∙ ap (policy_named (file_vetoes C) C (session_of r)) hinted in
    rw (p.1, p.2)
    (ap (λ hs. record { told = t; helpers = helpers_in hs.entries }) c.in_err-resolved.ensures.keeps.helpers
    ∙ draws_helper C (session_of r) (helpers_of r) c.args.place (other_of c.in-Some.other.now) there none t told)

-- the chunk is one of the others, and has no helper still
pub note_helper-requires : goal.note_helper-requires
note_helper-requires c =
    let r = c.args.self.now in
    let k = c.in-Some.other.now.index in
    let there = ap (λ t. slice_get (chunk_of t).others c.args.place) (sym c.chunk.ensures.tables) ∙ sym c.other_at.ensures ∙ ap (option_map (λ o. other_of o.now)) c.in-Some.is in
    let none = sym (found_helper (helper_entries r) c.in-Some.other.now.index) ∙ ap (option_map spelt) (sym c.find-already.ensures ∙ c.in-None.is) in
    record {
      other = ap (λ t. is_other (chunk_of t.chunk) k.0) c.create_conflictless_name.ensures.keeps.stays.tables ∙ at_place (chunk_in r).others c.args.place (other_of c.in-Some.other.now) there;
      none = ap (λ t. helper_of (helpers_in t.entries) k.0) c.create_conflictless_name.ensures.keeps.helpers ∙ none;
    }

pub returns-clause-rules : goal.returns-clause-rules
returns-clause-rules c =
    let r = c.args.self.now in
    let C = chunk_in r in
    let k = c.in-Some.other.now.index in
    let n = spelt c.in_ok-resolved.resolved.name in
    let there = ap (λ t. slice_get (chunk_of t).others c.args.place) (sym c.chunk.ensures.tables) ∙ sym c.other_at.ensures ∙ ap (option_map (λ o. other_of o.now)) c.in-Some.is in
    let none = sym (found_helper (helper_entries r) c.in-Some.other.now.index) ∙ ap (option_map spelt) (sym c.find-already.ensures ∙ c.in-None.is) in
    let hinted = c.as_bytes.ensures ∙ c.in_ok-hint.ensures.0 ∙ ap hint c.as_slice.ensures.value in
    let t = answers (given n c.in_ok-resolved.resolved.probes) in
    let told = c.in_ok-resolved.ensures.rules ∙ ap (policy_named (file_vetoes C) C (session_of r)) hinted in
    ap (λ S. record { told = t S; helpers = helpers_of c.note_helper.new.self }) c.note_helper.ensures.session
    ∙ ap (λ hs. record { told = t (session_of c.create_conflictless_name.new.self); helpers = hs })
    (c.note_helper.ensures.helpers ∙ ap (λ hs. helpers_in hs.entries ++ record { chunk = k.0; name = n } ∷ []) c.create_conflictless_name.ensures.keeps.helpers)
    ∙ draws_helper C (session_of r) (helpers_of r) c.args.place (other_of c.in-Some.other.now) there none _ told
