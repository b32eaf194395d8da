-- Counts and sums over 1 to n. Assumes nothing.
use Rattle.std.proofs.Common.{◌≡◌, ℕ, zero, suc, ◌+◌, ◌*◌, ◌≤◌, Bool, true, cond, ◌⊎◌, refl, inl, inr, add-mul, add-one, arith}
use Rattle.std.proofs.lemmas.Bool.{cases_eq}
use Rattle.conflict_resolver.specs.Laws.{count}

-- the sum of f over 1 to n
pub total : (ℕ → ℕ) → ℕ → ℕ
total f zero = 0
total f (suc n) = f (suc n) + total f n

pub count_more : (t : ℕ → Bool) (n : ℕ) → t (n + 1) ≡ true → count t (n + 1) ≡ count t n + 1
unfolding count
count_more t n e =
    let f : t (suc n) ≡ true = rw add-one at e in
    simp (add-one, f) (omega arith)

pub count_mono : (t : ℕ → Bool) (m n : ℕ) → m ≤ n → count t m ≤ count t n
unfolding count
count_mono t m zero h = let e : m ≡ 0 = omega arith in rw e (omega arith)
count_mono t m (suc n) h = on (cases_eq m (suc n)) (count_mono t m n)
  where
    on : (m ≡ suc n) ⊎ (m ≡ suc n → ⊥) → (m ≤ n → count t m ≤ count t n) → count t m ≤ count t (suc n)
    on (inl e) ih = rw e (omega arith)
    on (inr d) ih = let l : m ≤ n = omega arith in omega (arith, ih l)

-- a count of what passes one of two tests, never both
pub count_split : (u t s : ℕ → Bool) → ((i : ℕ) → cond (u i) 1 0 ≡ cond (t i) 1 0 + cond (s i) 1 0) → (n : ℕ) → count u n ≡ count t n + count s n
unfolding count
count_split u t s h zero = refl
count_split u t s h (suc n) = let e = count_split u t s h n in omega (arith, h (suc n), e)

-- each summand is at most m where the test passes, and 0 elsewhere
pub total_le : (f : ℕ → ℕ) (t : ℕ → Bool) (m : ℕ) → ((i : ℕ) → f i ≤ cond (t i) 1 0 * m) → (n : ℕ) → total f n ≤ count t n * m
unfolding count total
total_le f t m h zero = omega arith
total_le f t m h (suc n) = rw add-mul (omega (arith, h (suc n), total_le f t m h n))

pub total_same : (f g : ℕ → ℕ) (n : ℕ) → ((i : ℕ) → i ≤ n → f i ≡ g i) → total f n ≡ total g n
unfolding total
total_same f g zero h = refl
total_same f g (suc n) h = omega (arith, h (suc n) (omega arith), total_same f g n (λ i l. h i (omega arith)))

-- a sum falls by one where one summand does
pub total_falls : (f g : ℕ → ℕ) (j n : ℕ) → 1 ≤ j → j ≤ n → f j + 1 ≡ g j → ((i : ℕ) → i ≤ n → (i ≡ j → ⊥) → f i ≡ g i) → total f n + 1 ≡ total g n
unfolding total
total_falls f g j zero low high here there = omega arith
total_falls f g j (suc n) low high here there = on (cases_eq (suc n) j) (total_falls f g j n low)
  where
    on : (suc n ≡ j) ⊎ (suc n ≡ j → ⊥) → (j ≤ n → f j + 1 ≡ g j → ((i : ℕ) → i ≤ n → (i ≡ j → ⊥) → f i ≡ g i) → total f n + 1 ≡ total g n) → total f (suc n) + 1 ≡ total g (suc n)
    on (inl e) ih =
        let top : f (suc n) + 1 ≡ g (suc n) = rw e here in
        omega (arith, top, total_same f g n (λ i l. there i (omega arith) (omega arith)))
    on (inr d) ih = omega (arith, there (suc n) (omega arith) d, ih (omega arith) here (λ i l. there i (omega arith)))

-- one summand is at most the sum
pub total_has : (f : ℕ → ℕ) (j n : ℕ) → 1 ≤ j → j ≤ n → f j ≤ total f n
unfolding total
total_has f j zero low high = omega arith
total_has f j (suc n) low high = on (cases_eq (suc n) j) (total_has f j n low)
  where
    on : (suc n ≡ j) ⊎ (suc n ≡ j → ⊥) → (j ≤ n → f j ≤ total f n) → f j ≤ total f (suc n)
    on (inl e) ih = rw (← e) (omega arith)
    on (inr d) ih = omega (arith, ih (omega arith))
