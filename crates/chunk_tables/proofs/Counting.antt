-- Rows counted module by module. Assumes nothing.
use Rattle.std.proofs.Common.{◌≡◌, ℕ, ◌+◌, ◌-◌, ◌^◌, min, List, [], ◌∷◌, ◌++◌, map, refl, ap, ◌∙◌, arith}
use Rattle.chunk_tables.specs.Model.{Module}
use Rattle.chunk_tables.specs.View.{module_of}
use Rattle.chunk_tables.specs.declared.chunk.Module as modules
use Rattle.chunk_tables.specs.Limits.{in_all}

in_all_push : {A : Type 0} (f : A → ℕ) (xs : List A) (x : A) → in_all f (xs ++ x ∷ []) ≡ in_all f xs + f x
in_all_push f [] x = omega arith
in_all_push f (y ∷ xs) x = let ih = in_all_push f xs x in omega arith

in_all_map : {X A : Type 0} (v : X → A) (f : A → ℕ) (xs : List X) → in_all (λ x. f (v x)) xs ≡ in_all f (map v xs)
in_all_map v f [] = refl
in_all_map v f (x ∷ xs) = ap (λ n. f (v x) + n) (in_all_map v f xs)

-- one row more is counted
pub count_more : {X : Type 0} (f : X → ℕ) (xs : List X) (x : X) (n m : ℕ) → n ≡ min (in_all f xs) (2 ^ 64 - 1) → m ≡ min (n + f x) (2 ^ 64 - 1) → m ≡ min (in_all f (xs ++ x ∷ [])) (2 ^ 64 - 1)
count_more f xs x n m e h = let p = in_all_push f xs x in grind arith

-- all modules are counted, as the model has them
pub count_all : (f : Module → ℕ) {ys xs : List modules.Module} {n : ℕ} → ys ≡ xs → n ≡ min (in_all (λ m. f (module_of m)) ys) (2 ^ 64 - 1) → n ≡ min (in_all f (map module_of xs)) (2 ^ 64 - 1)
count_all f {ys} {xs} e h = h ∙ ap (λ k. min k (2 ^ 64 - 1)) (ap (in_all (λ m. f (module_of m))) e ∙ in_all_map module_of f xs)
