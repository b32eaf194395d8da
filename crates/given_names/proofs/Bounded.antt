-- A list whose elements have different numbers below a limit. Assumes nothing.
use Rattle.std.proofs.Common.{◌≡◌, ℕ, ◌<◌, ◌≤◌, true, eqb, List, [], ◌∷◌, map, length, get_or, sym, ◌∙◌, subst, arith}
use Rattle.std.specs.List.{All, AllPairs, list_any}
use Rattle.std.proofs.lemmas.Bool.{eqb-true, ne_eqb}
use Rattle.std.proofs.lemmas.List.{length-map, get_or-map}
use Rattle.std.proofs.lemmas.List.Elements.{All-map}
use Rattle.std.proofs.lemmas.List.Folds.{Any-from_list_any}
use Rattle.std.proofs.lemmas.Map.Keys.{IsDistinct-from_apart}
use Rattle.std.proofs.lemmas.Map.Steps.{length-le_from_distinct_below}

module _ {X : Type 0} (number : X → ℕ) where
  -- what stands in the list of the numbers is below the limit
  found_below : (xs : List X) (n : ℕ) → All (λ x. number x < n) xs → (q : ℕ) → list_any (eqb q) (map number xs) ≡ true → q < n
  found_below xs n below q found =
      let (k, y, l, is, e) = Any-from_list_any (eqb q) (map number xs) found in
      let h : get_or (map number xs) k y < n = All-map (λ i. i < n) number xs below k y l in
      let same : q ≡ y = eqb-true q y e in
      omega arith

  pub at_most : (xs : List X) (n : ℕ) → All (λ x. number x < n) xs → AllPairs (λ x y. number x ≡ number y → ⊥) xs → length xs ≤ n
  at_most [] n below apart = omega arith
  at_most (x ∷ xs) n below apart =
      let ys = x ∷ xs in
      let l : length (map number ys) ≡ length ys = length-map ys number in
      let distinct = IsDistinct-from_apart eqb (map number ys) (λ i j d h k. ne_eqb _ _ (λ e. apart i j x h (omega arith) (sym (get_or-map number ys i x d (omega arith)) ∙ e ∙ get_or-map number ys j x d (omega arith)))) in
      subst (λ m. m ≤ n) l (length-le_from_distinct_below (map number ys) n distinct (found_below ys n below))
