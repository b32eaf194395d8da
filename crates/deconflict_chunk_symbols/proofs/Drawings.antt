-- A helper for each of the other chunks, in the turns of a loop over their places. Assumes nothing.
use Rattle.std.proofs.Common.{◌≡◌, ℕ, ◌+◌, ◌<◌, ◌≤◌, List, ◌∷◌, length, drop, Some, Ok, Err, Result, sym, refl, ap, ⊎_elim, arith, ◌∙◌}
use Rattle.std.specs.List.{slice_get}
use Rattle.std.proofs.lemmas.List.{at_drop_more, at_drop_all}
use Rattle.std.proofs.lemmas.Option.{slice_get_cases}
use Rattle.names.specs.declared.refusal.Refusal.{Refusal}
use Rattle.session_rules.specs.Helpers.{Helper, Drawn, helper_drawn, helper_at}
use Rattle.session_rules.specs.Session.{Session}
use Rattle.renamer.specs.Answers.{told_end}
use Rattle.renamer.specs.Drawing.{drawn_as}
use Rattle.renamer.specs.Helpers.{helpers_in}
use Rattle.renamer.specs.State.{chunk_in, session_of, helpers_of, Stays}
use Rattle.renamer.specs.declared.renamer.Renamer.{Renamer}
use Rattle.renamer.specs.declared.renamer.naming.TopLevelName.{TopLevelName}
use Rattle.renamer.specs.declared.renamer.naming.TopLevelName.TheVariants.{Given, Already}
use Rattle.deconflict_chunk_symbols.specs.Drawing.{drawing_on, draw_each, drawn_end, run, Draws, DrawnTo, Runs}
use Rattle.deconflict_chunk_symbols.specs.Performing.{Performs}
use Rattle.deconflict_chunk_symbols.specs.Run.{naming_calls}
use Rattle.deconflict_chunk_symbols.proofs.RunCalls.{run_as_calls}
use Rattle.deconflict_chunk_symbols.proofs.Turns.{stays_all, stays_on, same_tables}

-- the element at a place, which stands before the rest
at_place : {A : Type 0} (xs : List A) (k : ℕ) → k < length xs → (x : A) × (slice_get xs k ≡ Some x) × (drop k xs ≡ x ∷ drop (k + 1) xs)
at_place xs k l =
    ⊎_elim (λ h. (h.0, h.2, at_drop_more (λ ys. ys) xs k h.0 l ∙ ap (λ y. y ∷ drop (k + 1) xs) h.3))
    (λ h. let past = h.0 in absurd (omega (arith, l, past)))
    (slice_get_cases xs k).1

pub none_drawn : (r : Renamer) → DrawnTo 0 r r
none_drawn r = record { rules = refl; stays = stays_all r }

goes : (t : Renamer) (n : TopLevelName) (go : Session → List Helper → Drawn) → go (session_of t) (helpers_of t) ≡ drawing_on (drawn_as (Ok n) t) go
goes t (Given f) go = refl
goes t (Already f) go = refl

module _ {r s : Renamer} {k : ℕ} (h : DrawnTo k r s) where
  -- the next chunk: what its helper comes to stands before what is left
  module _ (l : k < length (chunk_in r).others) where
    here : (d : Drawn) → d ≡ helper_at (chunk_in s) (session_of s) (helpers_of s) k
        → drawing_on d (λ T gs. draw_each (chunk_in r) T gs (drop (k + 1) (chunk_in r).others)) ≡ draw_each (chunk_in r) (session_of r) (helpers_of r) (chunk_in r).others
    here d e =
        let at = at_place (chunk_in r).others k l in
        let told : d ≡ helper_drawn (chunk_in r) (session_of s) (helpers_of s) at.0 =
        e ∙ ap (λ c. helper_at c (session_of s) (helpers_of s) k) (same_tables h.stays) ∙ (rw (at.1) refl) in
        ap (λ t. drawing_on t (λ T gs. draw_each (chunk_in r) T gs (drop (k + 1) (chunk_in r).others))) told
        ∙ ap (draw_each (chunk_in r) (session_of s) (helpers_of s)) (sym at.2) ∙ h.rules

    pub draws_next : {t : Renamer} (n : TopLevelName) → drawn_as (Ok n) t ≡ helper_at (chunk_in s) (session_of s) (helpers_of s) k → Stays s t → DrawnTo (k + 1) r t
    draws_next {t} n e g = record { rules = goes t n (λ T gs. draw_each (chunk_in r) T gs (drop (k + 1) (chunk_in r).others)) ∙ here (drawn_as (Ok n) t) e; stays = stays_on h.stays g }

    pub draws_no_more : {t : Renamer} {why : Refusal} → drawn_as (Err why) t ≡ helper_at (chunk_in s) (session_of s) (helpers_of s) k → Stays s t → Draws r t (Err why)
    draws_no_more {t} {why} e g = record { rules = here (drawn_as (Err why) t) e; stays = stays_on h.stays g }

  pub all_drawn : length (chunk_in r).others ≤ k → Draws r s (Ok tt)
  all_drawn l = record { rules = ap (draw_each (chunk_in r) (session_of s) (helpers_of s)) (sym (at_drop_all (λ ys. ys) (chunk_in r).others k l)) ∙ h.rules; stays = h.stays }

-- ---- the run

-- from the rules of a run to its calls
runs : {r s : Renamer} {o : Result (Unit {0}) Refusal} → drawn_end o s ≡ run (chunk_in r) (session_of r) (helpers_of r) → Stays r s → Runs r s o
runs {r} e h = record { rules = e; calls = ap (λ d. d.told) e ∙ run_as_calls (chunk_in r) (session_of r) (helpers_of r); stays = h }

-- a refusal of a naming call ends it
pub ends_run : {r s : Renamer} {why : Refusal} → Performs r s (Err why) (naming_calls (chunk_in r)) → Runs r s (Err why)
ends_run {r} {s} {why} h =
    runs
    (ap (λ k. record { told = told_end (Err why) (session_of s); helpers = helpers_in k.entries }) h.keeps.helpers
    ∙ ap (λ t. drawing_on (record { told = t; helpers = helpers_of r }) (λ T gs. draw_each (chunk_in r) T gs (chunk_in r).others)) h.rules)
    h.keeps.stays

-- else the helpers are drawn
pub draws_on : {r s t : Renamer} {o : Result (Unit {0}) Refusal} → Performs r s (Ok tt) (naming_calls (chunk_in r)) → Draws s t o → Runs r t o
draws_on {r} {s} h k =
    runs
    (k.rules
    ∙ ap (λ c. draw_each c (session_of s) (helpers_of s) c.others) (same_tables h.keeps.stays)
    ∙ ap (λ m. draw_each (chunk_in r) (session_of s) (helpers_in m.entries) (chunk_in r).others) h.keeps.helpers
    ∙ ap (λ t. drawing_on (record { told = t; helpers = helpers_of r }) (λ T gs. draw_each (chunk_in r) T gs (chunk_in r).others)) h.rules)
    (stays_on h.keeps.stays k.stays)
