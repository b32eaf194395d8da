-- What finds a row of the code's list finds it in the model's. Assumes nothing.
use Rattle.std.proofs.Common.{◌≡◌, ℕ, suc, Bool, ◌||◌, List, [], ◌∷◌, map, refl, ap, ◌∙◌, arith}
use Rattle.std.specs.List.{list_any, position, position_from}
use Rattle.std.proofs.lemmas.Iterator.Adapters.{position_from-zero}
use Rattle.chunk_tables.specs.Lists.{place, place_from}

module _ {X Y : Type 0} (f : X → Y) (p : Y → Bool) where
  pub any_map : (xs : List X) → list_any (λ x. p (f x)) xs ≡ list_any p (map f xs)
  any_map [] = refl
  any_map (x ∷ xs) = ap (λ b. p (f x) || b) (any_map xs)

  place_from_map : (k : ℕ) (xs : List X) → position_from (λ x. p (f x)) k xs ≡ place_from k p (map f xs)
  place_from_map k [] = refl
  place_from_map k (x ∷ xs) = grind (arith, place_from_map (suc k) xs)

  pub place_map : (xs : List X) → position (λ x. p (f x)) xs ≡ place p (map f xs)
  place_map xs = position_from-zero (λ x. p (f x)) xs ∙ place_from_map 0 xs
