-- What the records say of a name after a counter was raised or a name recorded. Assumes nothing.
use Rattle.std.proofs.Common.{◌≡◌, ℕ, ◌+◌, ◌<◌, ◌≤◌, true, false, ltb, ◌⊎◌, List, [], ◌∷◌, length, is_some, Some, None, Option, sym, refl, ap, ◌∙◌, inl, inr, arith}
use Rattle.std.specs.Str.{bytes_eq}
use Rattle.std.proofs.lemmas.Bool.{cases_Bool, both_ways}
use Rattle.std.proofs.lemmas.Slice.Eq.{bytes_eq-Decides}
use Rattle.conflict_resolver.specs.Records.{Record, counter_of, raised, recording, has_free, Apart}
use Rattle.conflict_resolver.specs.Laws.{Grown, Limited}

pub same_true : (c d : List ℕ) → c ≡ d → bytes_eq c d ≡ true
same_true c d e = (bytes_eq-Decides c d).1 e

pub same_false : (c d : List ℕ) → (c ≡ d → ⊥) → bytes_eq c d ≡ false
same_false c d n = on (cases_Bool (bytes_eq c d))
  where
    on : (bytes_eq c d ≡ true) ⊎ (bytes_eq c d ≡ false) → bytes_eq c d ≡ false
    on (inl t) = absurd (n ((bytes_eq-Decides c d).0 t))
    on (inr f) = f

-- raising c's counter
pub raised_same : (es : List Record) (c : List ℕ) (n : ℕ) → counter_of es c ≡ Some n → counter_of (raised es c) c ≡ Some (n + 1)
unfolding counter_of raised
raised_same [] c n h = cc
raised_same (e ∷ es) c n h = on (cases_Bool (bytes_eq e.name c)) (raised_same es c n)
  where
    on : (bytes_eq e.name c ≡ true) ⊎ (bytes_eq e.name c ≡ false) → (counter_of es c ≡ Some n → counter_of (raised es c) c ≡ Some (n + 1)) → counter_of (raised (e ∷ es) c) c ≡ Some (n + 1)
    on (inl t) ih =
        let i : Some e.counter ≡ Some n = rw t at h in
        let j : e.counter ≡ n = cc in
        simp (t, j)
    on (inr f) ih = let i : counter_of es c ≡ Some n = rw f at h in simp (f, ih i)

pub raised_other : (es : List Record) (c d : List ℕ) → (d ≡ c → ⊥) → counter_of (raised es c) d ≡ counter_of es d
unfolding counter_of raised
raised_other [] c d ne = refl
raised_other (e ∷ es) c d ne = on (cases_Bool (bytes_eq e.name c)) (raised_other es c d ne)
  where
    on : (bytes_eq e.name c ≡ true) ⊎ (bytes_eq e.name c ≡ false) → counter_of (raised es c) d ≡ counter_of es d → counter_of (raised (e ∷ es) c) d ≡ counter_of (e ∷ es) d
    on (inl t) ih =
        let same : e.name ≡ c = (bytes_eq-Decides e.name c).0 t in
        let f : bytes_eq e.name d ≡ false = same_false e.name d (λ g. ne (sym g ∙ same)) in
        simp (t, f)
    on (inr f) ih = simp (f, ih)

pub length_raised : (es : List Record) (c : List ℕ) → length (raised es c) ≡ length es
unfolding raised
length_raised [] c = refl
length_raised (e ∷ es) c = on (cases_Bool (bytes_eq e.name c)) (length_raised es c)
  where
    on : (bytes_eq e.name c ≡ true) ⊎ (bytes_eq e.name c ≡ false) → length (raised es c) ≡ length es → length (raised (e ∷ es) c) ≡ length (e ∷ es)
    on (inl t) ih = simp t
    on (inr f) ih = simp f (omega arith)

-- so a free record stays free
pub free_raised : (es fs : List Record) (c : List ℕ) (m n : ℕ) → fs ≡ raised es c → n ≡ m → has_free m es ≡ true → has_free n fs ≡ true
free_raised es fs c m n e r h = ap (λ k. ltb k n) (ap length e ∙ length_raised es c) ∙ ap (ltb (length es)) r ∙ h

-- recording c with 0
pub recorded_same : (es : List Record) (c : List ℕ) → counter_of es c ≡ None → counter_of (recording es c) c ≡ Some 0
unfolding counter_of
recorded_same [] c h = simp (same_true c c refl)
recorded_same (e ∷ es) c h = on (cases_Bool (bytes_eq e.name c)) (recorded_same es c)
  where
    on : (bytes_eq e.name c ≡ true) ⊎ (bytes_eq e.name c ≡ false) → (counter_of es c ≡ None → counter_of (recording es c) c ≡ Some 0) → counter_of (recording (e ∷ es) c) c ≡ Some 0
    on (inl t) ih = let i : Some e.counter ≡ None = rw t at h in cc
    on (inr f) ih = let i : counter_of es c ≡ None = rw f at h in simp (f, ih i)

pub recorded_other : (es : List Record) (c d : List ℕ) → (d ≡ c → ⊥) → counter_of (recording es c) d ≡ counter_of es d
unfolding counter_of
recorded_other [] c d ne = simp (same_false c d (λ e. ne (sym e)))
recorded_other (e ∷ es) c d ne = simp (recorded_other es c d ne)

-- Grown is an order
pub grown_same : (m : Option ℕ) → Grown m m
grown_same (Some m) = omega arith
grown_same None = tt

pub grown_from : (m n : Option ℕ) → m ≡ n → Grown m n
grown_from m n e = rw (← e) (grown_same m)

pub grown_trans : (l m n : Option ℕ) → Grown l m → Grown m n → Grown l n
grown_trans (Some l) (Some m) (Some n) h k = omega arith
grown_trans (Some l) (Some m) None h k = k
grown_trans (Some l) None n h k = absurd h
grown_trans None (Some m) n h k = absurd h
grown_trans None None n h k = k

pub grown_some : (m n : Option ℕ) → Grown m n → is_some n ≡ is_some m
grown_some (Some m) (Some n) h = refl
grown_some (Some m) None h = absurd h
grown_some None (Some n) h = absurd h
grown_some None None h = refl

pub grown_none : (m : Option ℕ) → Grown m None → m ≡ None
grown_none (Some m) h = absurd h
grown_none None h = refl

pub grown_raised : (es : List Record) (c : List ℕ) (n : ℕ) → counter_of es c ≡ Some n → (d : List ℕ) → Grown (counter_of es d) (counter_of (raised es c) d)
grown_raised es c n h d = on (cases_Bool (bytes_eq d c))
  where
    on : (bytes_eq d c ≡ true) ⊎ (bytes_eq d c ≡ false) → Grown (counter_of es d) (counter_of (raised es c) d)
    on (inl t) =
        let e : d ≡ c = (bytes_eq-Decides d c).0 t in
        rw (e, h, raised_same es c n h) (omega arith)
    on (inr f) = grown_from (counter_of es d) (counter_of (raised es c) d) (sym (raised_other es c d (λ e. both_ways (bytes_eq d c) f (same_true d c e))))

-- no counter passes the limit
pub limited_raised : (es : List Record) (c : List ℕ) (n : ℕ) → counter_of es c ≡ Some n → n < 9999 → Limited es → Limited (raised es c)
limited_raised es c n h l low d m e = on (cases_Bool (bytes_eq d c))
  where
    on : (bytes_eq d c ≡ true) ⊎ (bytes_eq d c ≡ false) → m ≤ 9999
    on (inl t) =
        let s : d ≡ c = (bytes_eq-Decides d c).0 t in
        let r : Some m ≡ Some (n + 1) = sym e ∙ ap (counter_of (raised es c)) s ∙ raised_same es c n h in
        let j : m ≡ n + 1 = cc in
        omega arith
    on (inr f) = low d m (sym (raised_other es c d (λ s. both_ways (bytes_eq d c) f (same_true d c s))) ∙ e)

pub limited_recorded : (es : List Record) (c : List ℕ) → counter_of es c ≡ None → Limited es → Limited (recording es c)
limited_recorded es c h low d m e = on (cases_Bool (bytes_eq d c))
  where
    on : (bytes_eq d c ≡ true) ⊎ (bytes_eq d c ≡ false) → m ≤ 9999
    on (inl t) =
        let s : d ≡ c = (bytes_eq-Decides d c).0 t in
        let r : Some m ≡ Some 0 = sym e ∙ ap (counter_of (recording es c)) s ∙ recorded_same es c h in
        let j : m ≡ 0 = cc in
        omega arith
    on (inr f) = low d m (sym (recorded_other es c d (λ s. both_ways (bytes_eq d c) f (same_true d c s))) ∙ e)

-- distinct names stay distinct
pub apart_raised : (es : List Record) (c : List ℕ) → Apart es → Apart (raised es c)
unfolding Apart raised
apart_raised [] c a = a
apart_raised (e ∷ es) c a = on (cases_Bool (bytes_eq e.name c)) (apart_raised es c a.1)
  where
    on : (bytes_eq e.name c ≡ true) ⊎ (bytes_eq e.name c ≡ false) → Apart (raised es c) → Apart (raised (e ∷ es) c)
    on (inl t) ih = simp t a
    on (inr f) ih = simp f (raised_other es c e.name (λ g. both_ways (bytes_eq e.name c) f (same_true e.name c g)) ∙ a.0, ih)

pub apart_recorded : (es : List Record) (c : List ℕ) → counter_of es c ≡ None → Apart es → Apart (recording es c)
unfolding Apart counter_of
apart_recorded [] c h a = (refl, tt)
apart_recorded (e ∷ es) c h a = on (cases_Bool (bytes_eq e.name c)) (λ i. apart_recorded es c i a.1)
  where
    on : (bytes_eq e.name c ≡ true) ⊎ (bytes_eq e.name c ≡ false) → (counter_of es c ≡ None → Apart (recording es c)) → Apart (recording (e ∷ es) c)
    on (inl t) ih = let i : Some e.counter ≡ None = rw t at h in let z : ◌≡◌ {A = ℕ} 0 1 = cc in absurd (omega arith)
    on (inr f) ih =
        let i : counter_of es c ≡ None = rw f at h in
        (recorded_other es c e.name (λ g. both_ways (bytes_eq e.name c) f (same_true e.name c g)) ∙ a.0, ih i)
