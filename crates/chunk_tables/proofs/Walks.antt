-- Walks from scope to scope. Assumes nothing.
use Rattle.std.proofs.Common.{◌≡◌, ℕ, zero, suc, ◌<◌, ◌≤◌, Bool, cond, eqb, List, [], ◌∷◌, Some, refl, ap, ◌∙◌, arith}
use Rattle.std.proofs.lemmas.Bool.{ne_eqb, cond-false}
use Rattle.chunk_tables.specs.Lists.{maybe}
use Rattle.chunk_tables.specs.Scopes.{parent_in, outward, ancestors}

module _ (ps : List ℕ) where
  pub parent_smaller : (s p : ℕ) → parent_in ps s ≡ Some p → p < s
  parent_smaller s p e = grind arith

  -- what holds of a parent, by cases on whether there is one
  parents_alike : (s : ℕ) (f g : ℕ → List ℕ) → ((p : ℕ) → p < s → f p ≡ g p) → maybe (parent_in ps s) [] f ≡ maybe (parent_in ps s) [] g
  parents_alike s f g h = grind (arith, parent_smaller, h)

  module _ (root : Bool) where
    -- any number of parents from the scope's own number on leads to the same scopes
    enough : (m n s : ℕ) → s ≤ m → s ≤ n → outward ps root m s ≡ outward ps root n s
    enough zero zero s a b = refl
    enough zero (suc n) s a b = let e : s ≡ 0 = omega arith in rw e
    enough (suc m) zero s a b = let e : s ≡ 0 = omega arith in rw e
    enough (suc m) (suc n) s a b =
        ap (λ r. cond (eqb s 0) (cond root (0 ∷ []) []) (s ∷ r))
        (parents_alike s (outward ps root m) (outward ps root n) (λ p l. enough m n p (omega arith) (omega arith)))

    -- the scopes from s, which is no root, are s and those from its parent
    pub onward : (s : ℕ) → (s ≡ 0 → ⊥) → ancestors ps root s ≡ s ∷ maybe (parent_in ps s) [] (ancestors ps root)
    onward zero ne = absurd (ne refl)
    onward (suc s) ne =
        cond-false _ _ _ (ne_eqb (suc s) 0 ne)
        ∙ ap (λ r. suc s ∷ r)
        (parents_alike (suc s) (outward ps root s) (ancestors ps root) (λ p l. enough s p p (omega arith) (omega arith)))
