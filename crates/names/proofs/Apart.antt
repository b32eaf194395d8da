-- A form has one base and one number, since no digit is a `$`. Assumes nothing.
use Rattle.std.proofs.Common.{◌≡◌, ℕ, ◌+◌, ◌^◌, ◌<◌, ◌≤◌, List, [], ◌∷◌, ◌++◌, decimal, sym, refl, ap, ◌∙◌, arith}
use Rattle.std.specs.List.{AllByRecursion as All}
use Rattle.std.proofs.ByRecursion.{All-push}
use Rattle.std.proofs.lemmas.Fmt.{decimal_by_steps, decimal_injective}
use Rattle.names.specs.Forms.{form, FormOf}

-- no `$` among the bytes
abbrev Plain : List ℕ → Type 0
Plain = All (λ d. d ≡ 36 → ⊥)

plain_decimal : (k : ℕ) → k < 2 ^ 64 → Plain (decimal k)
plain_decimal k l =
    decimal_by_steps (λ n ds. Plain ds) (λ n small. ((λ e. omega arith), tt)) (λ n ds large plain. All-push (λ d. d ≡ 36 → ⊥) ds (48 + _) plain (λ e. omega arith)) k l

-- a `$` in the middle of a list without one
inside : (xs ys ds : List ℕ) → Plain ds → ds ≡ xs ++ 36 ∷ ys → ⊥
inside [] ys [] plain e = let z : ◌≡◌ {A = ℕ} 0 1 = cc in omega arith
inside [] ys (d ∷ ds) plain e = let z : d ≡ 36 = cc in plain.0 z
inside (x ∷ xs) ys [] plain e = let z : ◌≡◌ {A = ℕ} 0 1 = cc in omega arith
inside (x ∷ xs) ys (d ∷ ds) plain e = let z : ds ≡ xs ++ 36 ∷ ys = cc in inside xs ys ds plain.1 z

-- what stands before a `$` is determined where no other `$` follows
fronts : (xs ys ds es : List ℕ) → Plain ds → Plain es → xs ++ 36 ∷ ds ≡ ys ++ 36 ∷ es → xs ≡ ys
fronts [] [] ds es p q e = refl
fronts [] (y ∷ ys) ds es p q e = let z : ds ≡ ys ++ 36 ∷ es = cc in absurd (inside ys es ds p z)
fronts (x ∷ xs) [] ds es p q e = let z : es ≡ xs ++ 36 ∷ ds = cc in absurd (inside xs ds es q z)
fronts (x ∷ xs) (y ∷ ys) ds es p q e =
    let z : xs ++ 36 ∷ ds ≡ ys ++ 36 ∷ es = cc in
    let h : x ≡ y = cc in
    let t = fronts xs ys ds es p q z in
    cc

backs : (xs ds es : List ℕ) → xs ++ 36 ∷ ds ≡ xs ++ 36 ∷ es → ds ≡ es
backs [] ds es e = cc
backs (x ∷ xs) ds es e = let z : xs ++ 36 ∷ ds ≡ xs ++ 36 ∷ es = cc in backs xs ds es z

pub form_base : (b d : List ℕ) (j k : ℕ) → j ≤ 9999 → k ≤ 9999 → form b j ≡ form d k → b ≡ d
form_base b d j k l m e = fronts b d (decimal j) (decimal k) (plain_decimal j (omega arith)) (plain_decimal k (omega arith)) e

pub form_number : (b d : List ℕ) (j k : ℕ) → j ≤ 9999 → k ≤ 9999 → form b j ≡ form d k → j ≡ k
form_number b d j k l m e =
    let same = form_base b d j k l m e in
    let z : form b j ≡ form b k = e ∙ ap (λ c. form c k) (sym same) in
    decimal_injective j k (omega arith) (omega arith) (backs b (decimal j) (decimal k) z)

pub is_form : (b : List ℕ) (k : ℕ) (c : List ℕ) → k ≤ 9999 → c ≡ form b k → FormOf b k c
is_form b k c l e = record {
  spells = e;
  base = λ d j s f. form_base d b j k s.1 l (sym f ∙ e);
  number = λ d j s f. form_number d b j k s.1 l (sym f ∙ e);
}
