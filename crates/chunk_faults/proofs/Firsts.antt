-- The first element at which something is found. Assumes nothing.
use Rattle.std.proofs.Common.{◌≡◌, ℕ, zero, suc, ◌+◌, ◌<◌, List, [], ◌∷◌, Some, None, Option, sym, refl, ap, ◌∙◌, arith}
use Rattle.std.specs.Option.{option_map}
use Rattle.std.specs.List.{slice_get}
use Rattle.chunk_tables.specs.Lists.{maybe, first_found}
use Rattle.chunk_faults.specs.Tests.{each_from}

pub none_some : {A : Type 0} {x : A} → None ≡ Some x → ⊥
none_some e = let z : ◌≡◌ {A = ℕ} 0 1 = cc in omega arith

pub some_same : {A : Type 0} {x y : A} → Some x ≡ Some y → x ≡ y
some_same e = cc

-- where it was found: at x, number k, and at none before
pub record At {A B : Type 0} (f : A → Option B) (xs : List A) (b : B) : Type 0 where
  pub k : ℕ
  pub x : A
  pub here : slice_get xs k ≡ Some x
  pub finds : f x ≡ Some b
  pub earlier : (j : ℕ) (y : A) → j < k → slice_get xs j ≡ Some y → f y ≡ None

module _ {A B : Type 0} (f : A → Option B) where
  first_parts : (x : A) (xs : List A) → first_found f (x ∷ xs) ≡ None → (f x ≡ None) × (first_found f xs ≡ None)
  first_parts x xs e = on (f x) e
    where
      on : (o : Option B) → maybe o (first_found f xs) Some ≡ None → (o ≡ None) × (first_found f xs ≡ None)
      on None e = (refl, e)
      on (Some b) e = absurd (none_some (sym e))

  -- nothing is found at any element
  pub found_none : (xs : List A) → first_found f xs ≡ None → (k : ℕ) (x : A) → slice_get xs k ≡ Some x → f x ≡ None
  found_none [] e k x h = absurd (none_some h)
  found_none (y ∷ xs) e zero x h = ap f (sym (some_same h)) ∙ (first_parts y xs e).0
  found_none (y ∷ xs) e (suc k) x h = found_none xs (first_parts y xs e).1 k x h

  later : (x : A) (xs : List A) (b : B) → f x ≡ None → At f xs b → At f (x ∷ xs) b
  later x xs b e a = record {
    k = suc a.k;
    x = a.x;
    here = a.here;
    finds = a.finds;
    earlier = before;
  }
    where
      before : (j : ℕ) (y : A) → j < suc a.k → slice_get (x ∷ xs) j ≡ Some y → f y ≡ None
      before zero y l h = ap f (sym (some_same h)) ∙ e
      before (suc j) y l h = a.earlier j y (omega arith) h

  pub found_some : (xs : List A) (b : B) → first_found f xs ≡ Some b → At f xs b
  found_some [] b e = absurd (none_some e)
  found_some (x ∷ xs) b e = on (f x) refl e (found_some xs b)
    where
      on : (o : Option B) → f x ≡ o → maybe o (first_found f xs) Some ≡ Some b → (first_found f xs ≡ Some b → At f xs b) → At f (x ∷ xs) b
      on None p e ih = later x xs b p (ih e)
      on (Some d) p e ih = record { k = 0; x = x; here = refl; finds = p ∙ e; earlier = λ j y l. absurd (omega arith) }

-- the row with a number, among rows made one by one
pub nth_each : {A B : Type 0} (f : ℕ → A → B) (k : ℕ) (xs : List A) (i : ℕ) → slice_get (each_from k f xs) i ≡ option_map (f (k + i)) (slice_get xs i)
nth_each f k [] i = refl
nth_each f k (x ∷ xs) zero = ap (λ n. Some (f n x)) (omega arith)
nth_each f k (x ∷ xs) (suc i) = let e : suc k + i ≡ k + suc i = omega arith in nth_each f (suc k) xs i ∙ ap (λ n. option_map (f n) (slice_get xs i)) e
