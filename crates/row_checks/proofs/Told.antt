-- What is told of rows, over what is left of them, and over the rows of the model. Assumes nothing.
use Rattle.std.proofs.Common.{◌≡◌, ℕ, suc, ◌+◌, ◌<◌, ◌≤◌, List, [], ◌∷◌, map, length, get_or, drop, Some, None, Option, Result, Bor, sym, refl, ap, ◌∙◌, add-one}
use Rattle.std.specs.Bool.{⊤}
use Rattle.std.specs.List.{flat_map}
use Rattle.std.proofs.lemmas.List.{at_drop_more, at_drop_all}
use Rattle.chunk_tables.specs.Lists.{maybe, first_found}
use Rattle.names.specs.declared.refusal.Refusal.{Refusal}
use Rattle.chunk_faults.specs.Tests.{Test, least, told, each_from, each_row}
use Rattle.chunk_faults.proofs.Loops.{over_append, rows_are, views_are, modules_are, entries_are}
use Rattle.row_checks.specs.Told.{Tells, first_told}

abbrev pub told_from : {X : Type 0} → (ℕ → X → Option ℕ) → ℕ → List X → Option ℕ
told_from says k xs = first_found (λ o. o) (each_from k says xs)

pub told_rows : {X : Type 0} (f : ℕ → X → List Test) (k : ℕ) (xs : List X) → told_from (λ i x. least (f i x)) k xs ≡ first_found least (each_from k f xs)
told_rows f k [] = refl
told_rows f k (x ∷ xs) = ap (λ o. maybe (least (f k x)) o Some) (told_rows f (suc k) xs)

told_groups : {X : Type 0} (h : X → List (List Test)) (k : ℕ) (xs : List X) → told_from (λ i x. first_found least (h x)) k xs ≡ first_found least (flat_map h xs)
told_groups h k [] = refl
told_groups h k (x ∷ xs) = ap (λ o. maybe (first_found least (h x)) o Some) (told_groups h (suc k) xs) ∙ sym (over_append least (h x) (flat_map h xs))

-- what a check of the rows ys ensures, told of the rows of the model, which v makes of xs
module _ {X A : Type 0} (v : X → A) (ys xs : List X) (e : ys ≡ xs) {answers : ℕ → Bor X → Result ⊤ Refusal → Type 0} (r : Result ⊤ Refusal) (c : (says : ℕ → X → Option ℕ) → Tells answers says → told r ≡ first_told says ys) where
  -- by the tests of a row
  pub by_tests : (f : ℕ → A → List Test) → Tells answers (λ i x. least (f i (v x))) → told r ≡ first_found least (each_row f (map v xs))
  by_tests f t = c _ t ∙ told_rows (λ i x. f i (v x)) 0 ys ∙ rows_are v f ys xs e

  -- by tests that do not ask for the row's number
  pub by_own_tests : (f : A → List Test) → Tells answers (λ i x. least (f (v x))) → told r ≡ first_found least (map f (map v xs))
  by_own_tests f t = c _ t ∙ told_rows (λ i x. f (v x)) 0 ys ∙ views_are v f ys xs e

  -- by rows that a row has itself
  pub by_rows : (h : A → List (List Test)) → Tells answers (λ i x. first_found least (h (v x))) → told r ≡ first_found least (flat_map h (map v xs))
  by_rows h t = c _ t ∙ told_groups (λ x. h (v x)) 0 ys ∙ modules_are v h ys xs e

-- rows that the model has as they are, by tests that do not ask for the row's number
pub by_entries : {X : Type 0} (ys xs : List X) → ys ≡ xs → {answers : ℕ → Bor X → Result ⊤ Refusal → Type 0} (r : Result ⊤ Refusal) → ((says : ℕ → X → Option ℕ) → Tells answers says → told r ≡ first_told says ys) → (f : X → List Test) → Tells answers (λ i x. least (f x)) → told r ≡ first_found least (map f xs)
by_entries ys xs e r c f t = c _ t ∙ told_rows (λ i x. f x) 0 ys ∙ entries_are f ys xs e
