-- What is first found in joined lists, and in rows that a view makes. Assumes nothing.
use Rattle.std.proofs.Common.{◌≡◌, ℕ, suc, ◌+◌, ◌<◌, ◌≤◌, ◌⊎◌, List, [], ◌∷◌, ◌++◌, map, length, get_or, drop, IsErrAnd, Some, None, Ok, Err, Option, Result, sym, refl, ap, ◌∙◌, inl, inr, add-one}
use Rattle.std.specs.List.{flat_map}
use Rattle.std.proofs.lemmas.List.{at_drop_more, at_drop_all}
use Rattle.chunk_tables.specs.Lists.{maybe, first_found}
use Rattle.names.specs.Refusals.{number_of}
use Rattle.names.specs.declared.refusal.Refusal.{Refusal}
use Rattle.chunk_faults.specs.Tests.{Test, least, each_from, told}

module _ {A B : Type 0} (g : A → Option B) where
  pub over_append : (xs ys : List A) → first_found g (xs ++ ys) ≡ maybe (first_found g xs) (first_found g ys) Some
  over_append [] ys = refl
  over_append (x ∷ xs) ys = on (g x) (over_append xs ys)
    where
      on : (o : Option B) → first_found g (xs ++ ys) ≡ maybe (first_found g xs) (first_found g ys) Some → maybe o (first_found g (xs ++ ys)) Some ≡ maybe (maybe o (first_found g xs) Some) (first_found g ys) Some
      on None h = h
      on (Some b) h = refl

  pub over_joined : {X : Type 0} (h : X → List A) (xs : List X) → first_found (λ x. first_found g (h x)) xs ≡ first_found g (flat_map h xs)
  over_joined h [] = refl
  over_joined h (x ∷ xs) = ap (λ o. maybe (first_found g (h x)) o Some) (over_joined h xs) ∙ sym (over_append (h x) (flat_map h xs))

-- the rows of the model are those of the code
pub each_map : {X A B : Type 0} (v : X → A) (f : ℕ → A → B) (k : ℕ) (xs : List X) → each_from k (λ i x. f i (v x)) xs ≡ each_from k f (map v xs)
each_map v f k [] = refl
each_map v f k (x ∷ xs) = ap (λ t. f k (v x) ∷ t) (each_map v f (suc k) xs)

pub rows_are : {X A : Type 0} (v : X → A) (f : ℕ → A → List Test) (ys xs : List X) → ys ≡ xs → first_found least (each_from 0 (λ i x. f i (v x)) ys) ≡ first_found least (each_from 0 f (map v xs))
rows_are v f ys xs e = ap (λ l. first_found least (each_from 0 (λ i x. f i (v x)) l)) e ∙ ap (first_found least) (each_map v f 0 xs)

joined_map : {X A B : Type 0} (v : X → A) (h : A → List B) (xs : List X) → flat_map (λ x. h (v x)) xs ≡ flat_map h (map v xs)
joined_map v h [] = refl
joined_map v h (x ∷ xs) = ap (λ t. h (v x) ++ t) (joined_map v h xs)

pub modules_are : {X A : Type 0} (v : X → A) (h : A → List (List Test)) (ys xs : List X) → ys ≡ xs → first_found least (flat_map (λ x. h (v x)) ys) ≡ first_found least (flat_map h (map v xs))
modules_are v h ys xs e = ap (λ l. first_found least (flat_map (λ x. h (v x)) l)) e ∙ ap (first_found least) (joined_map v h xs)

-- rows whose tests do not ask for their number
each_entry : {X B : Type 0} (f : X → B) (k : ℕ) (xs : List X) → each_from k (λ i x. f x) xs ≡ map f xs
each_entry f k [] = refl
each_entry f k (x ∷ xs) = ap (λ t. f x ∷ t) (each_entry f (suc k) xs)

pub entries_are : {X : Type 0} (f : X → List Test) (ys xs : List X) → ys ≡ xs → first_found least (each_from 0 (λ i x. f x) ys) ≡ first_found least (map f xs)
entries_are f ys xs e = ap (first_found least) (each_entry f 0 ys ∙ ap (map f) e)

pub views_are : {X A : Type 0} (v : X → A) (f : A → List Test) (ys xs : List X) → ys ≡ xs → first_found least (each_from 0 (λ i x. f (v x)) ys) ≡ first_found least (map f (map v xs))
views_are v f ys xs e = rows_are v (λ i a. f a) ys xs e ∙ ap (first_found least) (each_entry f 0 (map v xs))
