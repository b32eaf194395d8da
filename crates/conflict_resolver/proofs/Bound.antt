-- How many probes a search takes, by a potential that each probe lowers:
-- each recorded form holds 1 and the count of the recorded or vetoed numbers above its counter. Assumes nothing.
use Rattle.std.proofs.Common.{◌≡◌, ℕ, zero, suc, ◌+◌, ◌-◌, ◌*◌, ◌<◌, ◌≤◌, Bool, true, false, cond, not, ◌&&◌, ◌||◌, ◌⊎◌, List, is_some, Some, None, Option, sym, refl, ap, ◌∙◌, inl, inr, mul-le-mul_right, arith}
use Rattle.std.proofs.lemmas.Bool.{cases_Bool, or_parts}
use Rattle.names.specs.Forms.{form}
use Rattle.conflict_resolver.specs.Records.{Record, counter_of, raised, has_free}
use Rattle.conflict_resolver.specs.Rules.{Outcome, granted, refused, State, next, done, opening, run, searched}
use Rattle.names.specs.Bases.{is_base}
use Rattle.conflict_resolver.specs.Laws.{count, is_recorded, is_vetoed, most_probes, Bounded}
use Rattle.names.proofs.Apart.{form_number}
use Rattle.conflict_resolver.proofs.Counting.{total, count_more, count_mono, count_split, total_le, total_falls, total_has}
use Rattle.conflict_resolver.proofs.Lookups.{raised_same, raised_other, grown_raised, grown_some}
use Rattle.conflict_resolver.proofs.Looks.{Look, raises, worn, skips, spent, takes, looks}

-- a recorded form that its counter may still send elsewhere
weight : (ℕ → Bool) → Option ℕ → ℕ
weight bad (Some c) = 1 + (count bad 9999 - count bad c)
weight bad None = 0

-- the sum over the forms of b
reserve : (ℕ → Bool) → List ℕ → List Record → ℕ
reserve bad b es = total (λ j. weight bad (counter_of es (form b j))) 9999

-- the vetoed numbers from k on
rest : (ℕ → Bool) → ℕ → ℕ
rest s k = count s 9999 - count s (k - 1)

potential : (ℕ → Bool) → (ℕ → Bool) → List ℕ → List Record → ℕ → ℕ
potential bad s b es k = reserve bad b es * (count s 9999 + 1) + rest s k + 1

rest_le : (s : ℕ → Bool) (k : ℕ) → rest s k ≤ count s 9999
unfolding rest
rest_le s k = omega arith

rest_falls : (s : ℕ → Bool) (k : ℕ) → 1 ≤ k → k ≤ 9999 → s k ≡ true → rest s (k + 1) + 1 ≡ rest s k
unfolding rest
rest_falls s k low high yes-s =
    let e : k - 1 + 1 ≡ k = omega arith in
    let m : count s (k - 1 + 1) ≡ count s (k - 1) + 1 = count_more s (k - 1) (rw e yes-s) in
    let n : count s k ≡ count s (k - 1) + 1 = rw e at m in
    let o : k + 1 - 1 ≡ k = omega arith in
    rw o (omega (arith, n, count_mono s k 9999 high))

weight_falls : (bad : ℕ → Bool) (c : ℕ) → c < 9999 → bad (c + 1) ≡ true → weight bad (Some (c + 1)) + 1 ≡ weight bad (Some c)
unfolding weight
weight_falls bad c l t = omega (arith, count_more bad c t, count_mono bad (c + 1) 9999 (omega arith))

weight_le : (bad : ℕ → Bool) (o : Option ℕ) → weight bad o ≤ cond (is_some o) 1 0 * (count bad 9999 + 1)
unfolding weight
weight_le bad (Some c) = omega arith
weight_le bad None = omega arith

module _ (bad : ℕ → Bool) (b : List ℕ) (es : List Record) where
  reserve_le : (t : ℕ → Bool) → ((j : ℕ) → is_some (counter_of es (form b j)) ≡ t j) → reserve bad b es ≤ count t 9999 * (count bad 9999 + 1)
  unfolding reserve
  reserve_le t agree = total_le (λ j. weight bad (counter_of es (form b j))) t (count bad 9999 + 1) (λ j. rw (← agree j) (weight_le bad (counter_of es (form b j)))) 9999

  reserve_some : (k c : ℕ) → 1 ≤ k → k ≤ 9999 → counter_of es (form b k) ≡ Some c → 1 ≤ reserve bad b es
  unfolding reserve weight
  reserve_some k c low high e =
      let h : weight bad (counter_of es (form b k)) ≤ total (λ j. weight bad (counter_of es (form b j))) 9999 = total_has (λ j. weight bad (counter_of es (form b j))) k 9999 low high in
      let i : weight bad (counter_of es (form b k)) ≡ weight bad (Some c) = ap (weight bad) e in
      omega arith

  reserve_falls : (k c : ℕ) → 1 ≤ k → k ≤ 9999 → counter_of es (form b k) ≡ Some c → c < 9999 → bad (c + 1) ≡ true → reserve bad b (raised es (form b k)) + 1 ≡ reserve bad b es
  unfolding reserve
  reserve_falls k c low high e l t =
      total_falls (λ j. weight bad (counter_of (raised es (form b k)) (form b j))) (λ j. weight bad (counter_of es (form b j))) k 9999 low high
      (rw (e, raised_same es (form b k) c e) (weight_falls bad c l t))
      (λ i li ne. ap (weight bad) (raised_other es (form b k) (form b i) (λ f. ne (form_number b b i k li high f))))

-- p probes and at most m more, or n fewer than m where the probes ran out
Within : ℕ → ℕ → ℕ → Outcome → Type 0
Within p m n (granted fs c q) = q ≤ p + m
Within p m n (refused fs why) = why ≡ 12 → n < m

within_more : (p m m' n : ℕ) (o : Outcome) → m' + 1 ≤ m → Within (p + 1) m' n o → Within p m (suc n) o
unfolding Within
within_more p m m' n (granted fs c q) l h = omega arith
within_more p m m' n (refused fs why) l h = λ e. omega (arith, h e)

abbrev either : (ℕ → Bool) → (ℕ → Bool) → ℕ → Bool
either t s j = t j || s j

-- the records have the forms on record that t tells
abbrev Agree : List ℕ → (ℕ → Bool) → List Record → Type 0
Agree b t es = (j : ℕ) → is_some (counter_of es (form b j)) ≡ t j

agree_raised : (b : List ℕ) (t : ℕ → Bool) (es : List Record) (c : List ℕ) (n : ℕ) → counter_of es c ≡ Some n → Agree b t es → Agree b t (raised es c)
agree_raised b t es c n e a j = grown_some (counter_of es (form b j)) (counter_of (raised es c) (form b j)) (grown_raised es c n e (form b j)) ∙ a j

pub run_done : (vetoes : List ℕ → Bool → Bool) (b : List ℕ) (n : ℕ) (o : Outcome) → run vetoes b n (done o) ≡ o
unfolding run
run_done vetoes b zero o = refl
run_done vetoes b (suc n) o = refl

-- the potential after a jump, and after a step to the next number
leaps : (r r' v w w' : ℕ) → r' + 1 ≡ r → w' ≤ v → (r' * (v + 1) + w' + 1) + 1 ≤ r * (v + 1) + w + 1
leaps r r' v w w' e l = rw (← e) (omega arith)

module _ (vetoes : List ℕ → Bool → Bool) (b : List ℕ) (t s : ℕ → Bool) (s-is : (j : ℕ) → s j ≡ (not (t j) && vetoes (form b j) false)) where
  -- a probe of a number that is neither recorded nor vetoed is the last one
  lands : (n : ℕ) (es : List Record) (k p m : ℕ) → Agree b t es → either t s k ≡ false → 2 ≤ m → Within p m (suc n) (run vetoes b n (next es k (p + 1)))
  unfolding run Within
  lands zero es k p m a e l = λ _. omega arith
  lands (suc n) es k p m a e l = on (looks vetoes es (form b k) false k (p + 1 + 1))
    where
      open_k : t k ≡ false
      open_k = (or_parts (t k) (s k) e).0

      unshut_k : s k ≡ false
      unshut_k = (or_parts (t k) (s k) e).1

      never : {X : Type 0} → (c : ℕ) → counter_of es (form b k) ≡ Some c → X
      never c f =
          let g : is_some (counter_of es (form b k)) ≡ true = ap is_some f in
          let h : ◌≡◌ {A = ℕ} 0 1 = cc (a k) in
          absurd (omega arith)

      passed : {X : Type 0} → vetoes (form b k) false ≡ true → X
      passed v =
          let f : (not false && true) ≡ false = rw (open_k, v) at (sym (s-is k) ∙ unshut_k) in
          let h : ◌≡◌ {A = ℕ} 0 1 = cc in
          absurd (omega arith)

      on : {st : State} → Look vetoes es (form b k) false k (p + 1 + 1) st → Within p m (suc (suc n)) (run vetoes b n st)
      on (raises c f g) = never c f
      on (worn c f g) = never c f
      on (skips f v g) = passed v
      on (spent f v g) = passed v
      on (takes f v) = rw run_done (omega arith)

  pot : List Record → ℕ → ℕ
  pot es k = potential (either t s) s b es k

  -- what is still to show of n probes, at any state
  abbrev Stays : ℕ → Type 0
  Stays n = (es : List Record) (k p : ℕ) → Agree b t es → 1 ≤ k → k ≤ 9999 → Within p (pot es k) n (run vetoes b n (next es k p))

  pot_some : (es : List Record) (k c : ℕ) → 1 ≤ k → k ≤ 9999 → counter_of es (form b k) ≡ Some c → 2 ≤ pot es k
  unfolding pot potential
  pot_some es k c low high e =
      let r : 1 ≤ reserve (either t s) b es = reserve_some (either t s) b es k c low high e in
      omega (arith, mul-le-mul_right (count s 9999 + 1) r)

  pot_leaps : (es : List Record) (k c : ℕ) → 1 ≤ k → k ≤ 9999 → counter_of es (form b k) ≡ Some c → c < 9999 → either t s (c + 1) ≡ true → pot (raised es (form b k)) (c + 1) + 1 ≤ pot es k
  unfolding pot potential
  pot_leaps es k c low high e l bad =
      leaps (reserve (either t s) b es) (reserve (either t s) b (raised es (form b k))) (count s 9999) (rest s k) (rest s (c + 1))
      (reserve_falls (either t s) b es k c low high e l bad) (rest_le s (c + 1))

  pot_skips : (es : List Record) (k : ℕ) → 1 ≤ k → k ≤ 9999 → s k ≡ true → pot es (k + 1) + 1 ≤ pot es k
  unfolding pot potential
  pot_skips es k low high e = omega (arith, rest_falls s k low high e)

  turn : (n : ℕ) → Stays n → Stays (suc n)
  unfolding run Within pot potential
  turn n more es k p a low high = on (looks vetoes es (form b k) false k (p + 1))
    where
      shuts : counter_of es (form b k) ≡ None → vetoes (form b k) false ≡ true → s k ≡ true
      shuts e v =
          let f : t k ≡ false = sym (a k) ∙ ap is_some e in
          s-is k ∙ simp (f, v)

      leap : (c : ℕ) → counter_of es (form b k) ≡ Some c → c < 9999 → (either t s (c + 1) ≡ true) ⊎ (either t s (c + 1) ≡ false) → Within p (pot es k) (suc n) (run vetoes b n (next (raised es (form b k)) (c + 1) (p + 1)))
      leap c e l (inl bad) =
          within_more p (pot es k) (pot (raised es (form b k)) (c + 1)) n _ (pot_leaps es k c low high e l bad)
          (more (raised es (form b k)) (c + 1) (p + 1) (agree_raised b t es (form b k) c e a) (omega arith) (omega arith))
      leap c e l (inr good) =
          lands n (raised es (form b k)) (c + 1) p (pot es k) (agree_raised b t es (form b k) c e a) good (pot_some es k c low high e)

      on : {st : State} → Look vetoes es (form b k) false k (p + 1) st → Within p (pot es k) (suc n) (run vetoes b n st)
      on (raises c e l) = leap c e l (cases_Bool (either t s (c + 1)))
      on (worn c e l) = rw run_done (λ f. omega arith)
      on (skips e v l) =
          within_more p (pot es k) (pot es (k + 1)) n _ (pot_skips es k low high (shuts e v))
          (more es (k + 1) (p + 1) a (omega arith) (omega arith))
      on (spent e v l) = rw run_done (λ f. omega arith)
      on (takes e v) = rw run_done (omega arith)

  within : (n : ℕ) → Stays n
  unfolding run Within pot potential
  within zero es k p a low high = λ _. omega arith
  within (suc n) es k p a low high = turn n (within n) es k p a low high

caps : (r x v w : ℕ) → r ≤ x → w ≤ v → r * (v + 1) + w + 1 ≤ (x + 1) * (v + 1)
caps r x v w h l = omega (arith, mul-le-mul_right (v + 1) h)

one_of : (x y : Bool) → cond (x || (not x && y)) 1 0 ≡ cond x 1 0 + cond (not x && y) 1 0
one_of true y = refl
one_of false true = refl
one_of false false = refl

module _ (vetoes : List ℕ → Bool → Bool) (b : List ℕ) (es : List Record) where
  -- at any records that have the same forms on record, the potential is within the bound
  pot_le : (fs : List Record) (k : ℕ) → Agree b (is_recorded vetoes b es) fs → potential (either (is_recorded vetoes b es) (is_vetoed vetoes b es)) (is_vetoed vetoes b es) b fs k ≤ most_probes vetoes b es
  unfolding potential
  pot_le fs k a =
      let t = is_recorded vetoes b es in
      let s = is_vetoed vetoes b es in
      let two : count (either t s) 9999 ≡ count t 9999 + count s 9999 = count_split (either t s) t s (λ j. one_of (t j) (vetoes (form b j) false)) 9999 in
      let high : reserve (either t s) b fs ≤ count t 9999 * (count (either t s) 9999 + 1) = reserve_le (either t s) b fs t a in
      caps (reserve (either t s) b fs) (count t 9999 * (count t 9999 + count s 9999 + 1)) (count s 9999) (rest s k) (rw two at high) (rest_le s k)

  bounded_from : (m : ℕ) (o : Outcome) → m ≤ most_probes vetoes b es → Within 0 m 4096 o → Bounded vetoes b es o
  unfolding Within
  bounded_from m (granted fs c p) l h = omega arith
  bounded_from m (refused fs why) l h = λ e. omega (arith, h e)

  begun : {st : State} → Look vetoes es b true 0 0 st → Bounded vetoes b es (run vetoes b 4096 st)
  unfolding pot
  begun (raises n e l) =
      let a : Agree b (is_recorded vetoes b es) (raised es b) = agree_raised b (is_recorded vetoes b es) es b n e (λ j. refl) in
      bounded_from _ _ (pot_le (raised es b) (n + 1) a) (within vetoes b (is_recorded vetoes b es) (is_vetoed vetoes b es) (λ j. refl) 4096 (raised es b) (n + 1) 0 a (omega arith) (omega arith))
  begun (worn n e l) = rw run_done (λ f. omega arith)
  begun (skips e v l) = bounded_from _ _ (pot_le es (0 + 1) (λ j. refl)) (within vetoes b (is_recorded vetoes b es) (is_vetoed vetoes b es) (λ j. refl) 4096 es (0 + 1) 0 (λ j. refl) (omega arith) (omega arith))
  begun (spent e v l) = rw run_done (λ f. omega arith)
  begun (takes e v) = rw run_done (omega arith)

  pub bounded : (slots : ℕ) → Bounded vetoes b es (searched vetoes b slots es)
  unfolding searched
  bounded slots = on (is_base b) (has_free slots es)
    where
      on : (named room : Bool) → Bounded vetoes b es (elim named [ true ↦ elim room [ true ↦ run vetoes b 4096 (opening vetoes b es) | false ↦ refused es 10 ] | false ↦ refused es 7 ])
      on true true = begun (looks vetoes es b true 0 0)
      on true false = λ e. omega arith
      on false room = λ e. omega arith
