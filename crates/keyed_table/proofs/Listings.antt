-- A listing by keys: its keys ascend strictly, since no two are the same. Assumes nothing.
use Rattle.std.proofs.Common.{◌≡◌, ℕ, ◌+◌, ◌<◌, Bool, true, cond, eqb, Ordering, Option, List, [], ◌∷◌, ◌++◌, map, length, get_or, take, drop, sym, refl, ap, ◌∙◌, subst, ⊎_elim, arith}
use Rattle.std.specs.Cmp.{Agrees}
use Rattle.std.specs.Ordering.{is_lt, is_some_and, partial_lt}
use Rattle.std.specs.List.Sorted.{IsPermutation, IsSortedByKey}
use Rattle.std.specs.List.{swap}
use Rattle.std.proofs.lemmas.List.Edits.{swapped_from_swap}
use Rattle.std.proofs.lemmas.List.{length-map, get_or-map, length-set, take_at, drop_at}
use Rattle.std.proofs.lemmas.List.Sorted.{length_permutation, IsPermutation-keeps}
use Rattle.std.proofs.lemmas.Bool.{cases_eq, cases_order, cases_Bool, cond-true, cond-false, eq-eqb, ne_eqb}
use Rattle.std.proofs.lemmas.Bool.Decides.{nat_tests}
use Rattle.keyed_table.specs.Model.{Distinct}
use Rattle.keys.specs.Order.{Strict, Rising}
use Rattle.keyed_table.specs.Listed.{key_of, Sorted, Listed}
use Rattle.keyed_table.specs.declared.slot.Entry.{Entry}
use Rattle.keyed_table.proofs.Held.{front}

-- ---- an exchange keeps apart what is apart

-- where the element at k stood before a and b were exchanged
abbrev source : ℕ → ℕ → ℕ → ℕ
source a b k = cond (eqb k a) b (cond (eqb k b) a k)

source_one : (a b i j : ℕ) → source a b i ≡ source a b j → i ≡ j
source_one a b i j e = grind (arith, nat_tests)

source_within : (a b k n : ℕ) → a < n → b < n → k < n → source a b k < n
source_within a b k n l m h = grind (arith, nat_tests)

module _ {X Y : Type 0} (f : X → Y) where
  -- no value of f at two places
  abbrev pub Apart : List X → Type 0
  Apart xs = (i j : ℕ) (d : X) → i < length xs → j < length xs → f (get_or xs i d) ≡ f (get_or xs j d) → i ≡ j

  get_or_exchanged : (xs : List X) (a b k : ℕ) (d : X) → a < length xs → b < length xs → get_or (swap xs a b) k d ≡ get_or xs (source a b k) d
  get_or_exchanged [] a b k d l m = absurd (omega arith)
  get_or_exchanged (x ∷ xs) a b k d l m =
      let s = swapped_from_swap (x ∷ xs) (swap (x ∷ xs) a b) a b d l m refl in
      let at : ℕ → X = λ i. get_or (swap (x ∷ xs) a b) i d in
      let was : ℕ → X = λ i. get_or (x ∷ xs) i d in
      ⊎_elim
      (λ e. ap at e ∙ s.0 ∙ sym (ap was (cond-true _ _ _ (eq-eqb k a e))))
      (λ n. ⊎_elim
      (λ e. ap at e ∙ s.1 ∙ sym (ap was (cond-false _ _ _ (ne_eqb k a n) ∙ cond-true _ _ _ (eq-eqb k b e))))
      (λ o. s.2 k n o ∙ sym (ap was (cond-false _ _ _ (ne_eqb k a n) ∙ cond-false _ _ _ (ne_eqb k b o))))
      (cases_eq k b))
      (cases_eq k a)

  length_exchanged : (xs : List X) (a b : ℕ) → length (swap xs a b) ≡ length xs
  length_exchanged [] a b = refl
  length_exchanged (x ∷ xs) a b = length-set _ b _ ∙ length-set (x ∷ xs) a _

  apart_exchanged : (xs : List X) (a b : ℕ) → a < length xs → b < length xs → Apart xs → Apart (swap xs a b)
  apart_exchanged xs a b l m apart i j d h k e =
      let n = length_exchanged xs a b in
      source_one a b i j
      (apart (source a b i) (source a b j) d (source_within a b i (length xs) l m (omega arith)) (source_within a b j (length xs) l m (omega arith))
      (ap f (sym (get_or_exchanged xs a b i d l m)) ∙ e ∙ ap f (get_or_exchanged xs a b j d l m)))

  apart_shuffled : (xs ys : List X) → IsPermutation xs ys → Apart xs → Apart ys
  apart_shuffled xs ys s apart = IsPermutation-keeps xs Apart apart apart_exchanged ys s

-- ---- the listing

-- no two entries have one key
pub keys_apart : {K V : Type 0} (es : List (Entry K V)) → Distinct es → Apart key_of es
keys_apart es apart i j d l m e =
    ⊎_elim (λ eq. eq)
    (⊎_elim
    (λ lt. absurd (apart (record { i = i; j = j; d = d; less = lt; within = m; key = e })))
    (λ gt. absurd (apart (record { i = j; j = i; d = d; less = gt; within = l; key = sym e }))))
    (cases_order i j)

module _ {X K : Type 0} (key : X → K) {under : K → K → Bool} (o : Strict under) (rows : List X) (apart : Apart key rows) where
  rising : (ys : List X) → IsPermutation rows ys → Sorted key under ys → Rising under (map key ys)
  rising ys shuffled sorted k d l =
      let n = length-map ys key in
      let y = front ys (omega arith) in
      let at : (i : ℕ) → i < length ys → get_or (map key ys) i d ≡ key (get_or ys i y) = λ i h. get_or-map key ys i y d h in
      let x = key (get_or ys k y) in
      let z = key (get_or ys (k + 1) y) in
      let less : under x z ≡ true =
      ⊎_elim (λ t. t)
      (λ f.
      let one = apart_shuffled key rows ys shuffled apart k (k + 1) y (omega arith) (omega arith) (o.total x z f (sorted k y (omega arith))) in
      absurd (omega arith))
      (cases_Bool (under x z)) in
      ap (λ a. under a (get_or (map key ys) (k + 1) d)) (at k (omega arith)) ∙ ap (under x) (at (k + 1) (omega arith)) ∙ less

  pub listed : (was copied ys : List X) (n : ℕ) → n ≡ length rows → take n copied ≡ rows → drop n copied ≡ drop n was → IsPermutation (take n copied) ys → Sorted key under ys → Listed key under rows was (ys ++ drop n copied) n
  listed was copied ys n count copies rest shuffled sorted =
      let long : length ys ≡ n = length_permutation (take n copied) ys shuffled ∙ ap length copies ∙ sym count in
      let is = take_at ys (drop n copied) n long in
      let moved = subst (λ t. IsPermutation t ys) copies shuffled in
      record {
        count = count;
        shuffled = subst (IsPermutation rows) (sym is) moved;
        rising = subst (λ t. Rising under (map key t)) (sym is) (rising ys moved sorted);
        rest = drop_at ys (drop n copied) n long ∙ rest;
      }

-- what a sort by the keys leaves, where `<` of the keys is the order
pub sorted_by : {X K : Type 0} (key : X → K) {cmp : K → K → Ordering} {partial : K → K → Option Ordering} {under : K → K → Bool} → Agrees partial cmp → ((x y : K) → partial_lt partial x y ≡ under x y) → (ys : List X) → IsSortedByKey key cmp ys → Sorted key under ys
sorted_by key {cmp = cmp} {partial = partial} same agrees ys up k d l =
    let x = key (get_or ys k d) in
    let y = key (get_or ys (k + 1) d) in
    sym (agrees y x) ∙ ap (is_some_and is_lt) (same y x) ∙ up k d (omega arith) (omega arith)
