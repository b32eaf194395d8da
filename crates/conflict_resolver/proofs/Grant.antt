-- What a search leaves on record, and what a granted name is. Assumes nothing.
use Rattle.std.proofs.Common.{◌≡◌, ℕ, zero, suc, ◌+◌, ◌<◌, ◌≤◌, Bool, true, false, eqb, List, Some, None, refl, inl, inr, arith}
use Rattle.std.proofs.lemmas.Bool.{ne_eqb}
use Rattle.names.specs.Forms.{form}
use Rattle.conflict_resolver.specs.Records.{Record, counter_of, raised, recording, has_free}
use Rattle.conflict_resolver.specs.Rules.{refused, State, next, opening, run, searched}
use Rattle.names.specs.Bases.{is_base}
use Rattle.conflict_resolver.specs.Laws.{Candidate, Granted, Kept, Refused, Sound}
use Rattle.conflict_resolver.proofs.Lookups.{recorded_same, recorded_other, grown_same, grown_trans, grown_none, grown_raised, apart_raised, apart_recorded, limited_raised, limited_recorded}
use Rattle.conflict_resolver.proofs.Looks.{Look, raises, worn, skips, spent, takes, looks}
use Rattle.conflict_resolver.proofs.Bound.{run_done}

module _ (vetoes : List ℕ → Bool → Bool) (b : List ℕ) (es : List Record) where
  later : (fs : List Record) (c : List ℕ) (n : ℕ) → counter_of fs c ≡ Some n → n < 9999 → Kept es fs → Kept es (raised fs c)
  later fs c n e l h = record {
    grown = λ d. grown_trans (counter_of es d) (counter_of fs d) (counter_of (raised fs c) d) (h.grown d) (grown_raised fs c n e d);
    apart = λ a. apart_raised fs c (h.apart a);
    limited = λ low. limited_raised fs c n e l (h.limited low);
  }

  at_first : Kept es es
  at_first = record { grown = λ d. grown_same (counter_of es d); apart = λ a. a; limited = λ low. low }

  late : (fs : List Record) (why : ℕ) → 11 ≤ why → Kept es fs → Refused es fs why
  late fs why l h = record { kept = h; unchanged = λ m. absurd (omega arith) }

  early : (why : ℕ) → Refused es es why
  early why = record { kept = at_first; unchanged = λ m. refl }

  taken_up : (fs : List Record) (c : List ℕ) (p : ℕ) → Candidate b c p → Kept es fs → counter_of fs c ≡ None → vetoes c (eqb p 0) ≡ false → Granted vetoes b es (recording fs c) c p
  taken_up fs c p is h e v = record {
    candidate = is;
    unrecorded = grown_none (counter_of es c) (rw e at (h.grown c));
    recorded = recorded_same fs c e;
    unvetoed = v;
    others = λ d ne. rw (recorded_other fs c d ne) (h.grown d);
    apart = λ a. apart_recorded fs c e (h.apart a);
    limited = λ low. limited_recorded fs c e (h.limited low);
  }

  stays : (n : ℕ) (fs : List Record) (k p : ℕ) → 1 ≤ k → k ≤ 9999 → Kept es fs → Sound vetoes b es (run vetoes b n (next fs k p))
  unfolding run
  stays zero fs k p low high h = late fs 12 (omega arith) h
  stays (suc n) fs k p low high h = on (looks vetoes fs (form b k) false k (p + 1)) (stays n)
    where
      on : {st : State} → Look vetoes fs (form b k) false k (p + 1) st → ((fs : List Record) (k p : ℕ) → 1 ≤ k → k ≤ 9999 → Kept es fs → Sound vetoes b es (run vetoes b n (next fs k p))) → Sound vetoes b es (run vetoes b n st)
      on (raises c e l) more = more (raised fs (form b k)) (c + 1) (p + 1) (omega arith) (omega arith) (later fs (form b k) c e l h)
      on (worn c e l) more = rw run_done (late fs 11 (omega arith) h)
      on (skips e v l) more = more fs (k + 1) (p + 1) (omega arith) (omega arith) h
      on (spent e v l) more = rw run_done (late fs 11 (omega arith) h)
      on (takes e v) more =
          let f : eqb (p + 1) 0 ≡ false = ne_eqb (p + 1) 0 (λ g. omega arith) in
          rw run_done (taken_up fs (form b k) (p + 1) (inr (omega arith, (k, (low, high), refl))) h e (rw f v))

  begun : {st : State} → Look vetoes es b true 0 0 st → Sound vetoes b es (run vetoes b 4096 st)
  begun (raises c e l) = stays 4096 (raised es b) (c + 1) 0 (omega arith) (omega arith) (later es b c e l at_first)
  begun (worn c e l) = rw run_done (early 11)
  begun (skips e v l) = stays 4096 es (0 + 1) 0 (omega arith) (omega arith) at_first
  begun (spent e v l) = rw run_done (early 11)
  begun (takes e v) = rw run_done (taken_up es b 0 (inl (refl, refl)) at_first e v)

  pub sound : (slots : ℕ) → Sound vetoes b es (searched vetoes b slots es)
  unfolding searched
  sound slots = on (is_base b) (has_free slots es)
    where
      on : (named room : Bool) → Sound vetoes b es (elim named [ true ↦ elim room [ true ↦ run vetoes b 4096 (opening vetoes b es) | false ↦ refused es 10 ] | false ↦ refused es 7 ])
      on true true = begun (looks vetoes es b true 0 0)
      on true false = early 10
      on false room = early 7
