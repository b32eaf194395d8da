-- The steps of a search, as a loop takes them. Assumes nothing.
use Rattle.std.proofs.Common.{◌≡◌, ℕ, suc, ◌+◌, ◌-◌, ◌≤◌, Bool, true, false, ◌==◌, List, sym, ap, ◌∙◌, arith}
use Rattle.std.proofs.lemmas.Bool.{ne_eqb}
use Rattle.names.specs.Forms.{form}
use Rattle.conflict_resolver.specs.Records.{Record, counter_of, has_free}
use Rattle.conflict_resolver.specs.Rules.{Outcome, refused, State, next, done, follow, sight, probed, opening, run, searched}
use Rattle.names.specs.Bases.{is_base}
use Rattle.conflict_resolver.specs.Laws.{Sound, Bounded}
use Rattle.conflict_resolver.proofs.Grant.{sound}
use Rattle.conflict_resolver.proofs.Bound.{run_done, bounded}

module _ (vetoes : List ℕ → Bool → Bool) (b : List ℕ) where
  run_more : (n : ℕ) (es : List Record) (k q : ℕ) → q ≤ n → run vetoes b (suc n - q) (next es k (q - 1)) ≡ run vetoes b (n - q) (probed vetoes b es k (q - 1))
  unfolding run
  run_more n es k q l = let e : suc n - q ≡ suc (n - q) = omega arith in rw e

  -- probe q leads on, to the number j
  pub turns : (es fs : List Record) (k j q : ℕ) → q ≤ 4096 → next fs j q ≡ probed vetoes b es k (q - 1) → run vetoes b (4097 - (q + 1)) (next fs j (q + 1 - 1)) ≡ run vetoes b (4097 - q) (next es k (q - 1))
  turns es fs k j q l e =
      let n : 4097 - (q + 1) ≡ 4096 - q = omega arith in
      let i : q + 1 - 1 ≡ q = omega arith in
      rw (n, i, e) (sym (run_more 4096 es k q l))

  -- probe q ends the search
  pub finds : (es : List Record) (k q : ℕ) (o : Outcome) → q ≤ 4096 → done o ≡ probed vetoes b es k (q - 1) → o ≡ run vetoes b (4097 - q) (next es k (q - 1))
  finds es k q o l e = sym (run_more 4096 es k q l ∙ ap (run vetoes b (4096 - q)) (sym e) ∙ run_done vetoes b (4096 - q) o)

  -- no probe is left
  pub runs_out : (es : List Record) (k q p : ℕ) → 4097 ≤ q → refused es 12 ≡ run vetoes b (4097 - q) (next es k p)
  unfolding run
  runs_out es k q p l = let e : 4097 - q ≡ 0 = omega arith in rw e

  pub begins : (slots : ℕ) (es : List Record) (st : State) → is_base b ≡ true → has_free slots es ≡ true → st ≡ opening vetoes b es → run vetoes b 4096 st ≡ searched vetoes b slots es
  unfolding searched
  begins slots es st h l e = rw (h, l, searched) (ap (run vetoes b 4096) e)

  pub ends_at_once : (slots : ℕ) (es : List Record) (o : Outcome) → is_base b ≡ true → has_free slots es ≡ true → done o ≡ opening vetoes b es → o ≡ searched vetoes b slots es
  ends_at_once slots es o h l e = sym (run_done vetoes b 4096 o) ∙ begins slots es (done o) h l e

  pub no_room : (slots : ℕ) (es : List Record) → is_base b ≡ true → has_free slots es ≡ false → refused es 10 ≡ searched vetoes b slots es
  unfolding searched
  no_room slots es h l = rw (h, l, searched)

  pub no_base : (slots : ℕ) (es : List Record) → is_base b ≡ false → refused es 7 ≡ searched vetoes b slots es
  unfolding searched
  no_base slots es h = rw (h, searched)

  -- the laws, of whatever the rules compute
  pub sound_of : (slots : ℕ) (es : List Record) (o : Outcome) → o ≡ searched vetoes b slots es → Sound vetoes b es o
  sound_of slots es o e = rw e (sound vetoes b es slots)

  pub bounded_of : (slots : ℕ) (es : List Record) (o : Outcome) → o ≡ searched vetoes b slots es → Bounded vetoes b es o
  bounded_of slots es o e = rw e (bounded vetoes b es slots)

  -- probe q is a look at a candidate that spells the form of number k
  pub at_form : (es : List Record) (k q : ℕ) (c : List ℕ) (st : State) → 1 ≤ k → 1 ≤ q → c ≡ form b k → st ≡ follow es c k q (sight (counter_of es c) (vetoes c (k == 0))) → st ≡ probed vetoes b es k (q - 1)
  at_form es k q c st l m e h =
      let i : q - 1 + 1 ≡ q = omega arith in
      let f : (k == 0) ≡ false = ne_eqb k 0 (omega arith) in
      h ∙ ap (λ t. follow es c k q (sight (counter_of es c) (vetoes c t))) f
      ∙ ap (λ (d : List ℕ). follow es d k q (sight (counter_of es d) (vetoes d false))) e ∙ ap (λ n. follow es (form b k) k n (sight (counter_of es (form b k)) (vetoes (form b k) false))) (sym i)
