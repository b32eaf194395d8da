-- Neighbours in a list, and tests of its elements. Assumes nothing.
use Rattle.std.proofs.Common.{◌≡◌, zero, suc, Bool, true, ltb, [], ◌∷◌, Decides, sym, ◌∙◌, ⊎_elim, arith}
use Rattle.std.specs.List.{AllAdjacentBelow}
use Rattle.std.proofs.lemmas.Bool.{cases_Bool, both_ways}
use Rattle.keys.specs.Refs.{chunk_under}
use Rattle.keys.specs.declared.refs.ChunkIdx.{ChunkIdx}

-- two numbers ascend where the first is below the second
module _ (a b : ChunkIdx) where
  two : chunk_under a b ≡ true → AllAdjacentBelow (λ x y. chunk_under x y ≡ true) (a ∷ b ∷ []) 2
  two h zero d l = h
  two h (suc k) d l = absurd (omega arith)

  pub pair_ascends : (r : Bool) → Decides r (AllAdjacentBelow (λ x y. chunk_under x y ≡ true) (a ∷ b ∷ []) 2) → r ≡ ltb a.0 b.0
  pair_ascends r d =
      ⊎_elim
      (λ t. t ∙ sym (d.0 t 0 a (omega arith)))
      (λ f. f ∙ sym (⊎_elim (λ u. absurd (both_ways r f (d.1 (two u)))) (λ g. g) (cases_Bool (ltb a.0 b.0))))
      (cases_Bool r)
