-- The five ways that a look at a candidate can go, one for each rule, as a relation. Assumes nothing.
use Rattle.std.proofs.Common.{◌≡◌, ℕ, ◌+◌, ◌<◌, ◌≤◌, Bool, true, false, ltb, ◌⊎◌, List, Some, None, Option, refl, inl, inr}
use Rattle.std.proofs.lemmas.Bool.{cases_lt, lt-ltb, le-ltb}
use Rattle.conflict_resolver.specs.Records.{Record, counter_of, raised, recording}
use Rattle.conflict_resolver.specs.Rules.{granted, refused, State, next, done, sight, onward, follow}

pub data Look (vetoes : List ℕ → Bool → Bool) (es : List Record) (c : List ℕ) (bare : Bool) (k p : ℕ) : State → Type 0 where
  raises : (n : ℕ) → counter_of es c ≡ Some n → n < 9999 → Look vetoes es c bare k p (next (raised es c) (n + 1) p)
  worn : (n : ℕ) → counter_of es c ≡ Some n → 9999 ≤ n → Look vetoes es c bare k p (done (refused es 11))
  skips : counter_of es c ≡ None → vetoes c bare ≡ true → k < 9999 → Look vetoes es c bare k p (next es (k + 1) p)
  spent : counter_of es c ≡ None → vetoes c bare ≡ true → 9999 ≤ k → Look vetoes es c bare k p (done (refused es 11))
  takes : counter_of es c ≡ None → vetoes c bare ≡ false → Look vetoes es c bare k p (done (granted (recording es c) c p))

-- what the rules compute is one of the five
pub looks : (vetoes : List ℕ → Bool → Bool) (es : List Record) (c : List ℕ) (bare : Bool) (k p : ℕ) → Look vetoes es c bare k p (follow es c k p (sight (counter_of es c) (vetoes c bare)))
unfolding follow
looks vetoes es c bare k p = on (counter_of es c) refl (vetoes c bare) refl
  where
    rise : (n : ℕ) → counter_of es c ≡ Some n → (n < 9999) ⊎ (9999 ≤ n) → Look vetoes es c bare k p (onward (ltb n 9999) es (raised es c) n p)
    rise n e (inl l) = rw (lt-ltb n 9999 l) (raises n e l)
    rise n e (inr l) = rw (le-ltb n 9999 l) (worn n e l)

    skip : counter_of es c ≡ None → vetoes c bare ≡ true → (k < 9999) ⊎ (9999 ≤ k) → Look vetoes es c bare k p (onward (ltb k 9999) es es k p)
    skip e v (inl l) = rw (lt-ltb k 9999 l) (skips e v l)
    skip e v (inr l) = rw (le-ltb k 9999 l) (spent e v l)

    on : (o : Option ℕ) → counter_of es c ≡ o → (v : Bool) → vetoes c bare ≡ v → Look vetoes es c bare k p (follow es c k p (sight o v))
    on (Some n) e v f = rise n e (cases_lt n 9999)
    on None e true f = skip e f (cases_lt k 9999)
    on None e false f = takes e f

-- each rule, as what `follow` computes
module _ (es : List Record) (c : List ℕ) (k p : ℕ) (o : Option ℕ) (v : Bool) where
  pub follow_raises : (n : ℕ) → o ≡ Some n → n < 9999 → follow es c k p (sight o v) ≡ next (raised es c) (n + 1) p
  unfolding follow
  follow_raises n e l = rw (e, lt-ltb n 9999 l)

  pub follow_worn : (n : ℕ) → o ≡ Some n → 9999 ≤ n → follow es c k p (sight o v) ≡ done (refused es 11)
  unfolding follow
  follow_worn n e l = rw (e, le-ltb n 9999 l)

  pub follow_skips : o ≡ None → v ≡ true → k < 9999 → follow es c k p (sight o v) ≡ next es (k + 1) p
  unfolding follow
  follow_skips e f l = rw (e, f, lt-ltb k 9999 l)

  pub follow_spent : o ≡ None → v ≡ true → 9999 ≤ k → follow es c k p (sight o v) ≡ done (refused es 11)
  unfolding follow
  follow_spent e f l = rw (e, f, le-ltb k 9999 l)

  pub follow_takes : o ≡ None → v ≡ false → follow es c k p (sight o v) ≡ done (granted (recording es c) c p)
  unfolding follow
  follow_takes e f = rw (e, f)
