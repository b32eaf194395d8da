-- The numbers of a module's symbols. Assumes nothing.
use Rattle.std.proofs.Common.{◌≡◌, ℕ, ◌<◌, ◌≤◌, List, [], ◌∷◌, length, Some, suc, zero, ⊎_elim, arith}
use Rattle.std.proofs.lemmas.Bool.{cases_lt}
use mathlib.Core.Logic.{∥∥₁_elim}
use Rattle.std.specs.List.{slice_get}
use Rattle.chunk_faults.specs.Sound.{Sound}
use Rattle.chunk_tables.specs.Limits.{in_all}
use Rattle.chunk_tables.specs.Model.{Module, Chunk}

one_of : {A : Type 0} (f : A → ℕ) (xs : List A) (k : ℕ) (x : A) → Some x ≡ slice_get xs k → f x ≤ in_all f xs
one_of f [] k x e = absurd cc
one_of f (y ∷ ys) zero x e = let h : f x ≡ f y = cc in omega (arith, h)
one_of f (y ∷ ys) (suc k) x e = let h = one_of f ys k x e in omega (arith, h)

-- they are numbers of 32 bits
pub few : (c : Chunk) → ∥ Sound c ∥₁ → (m : ℕ) (M : Module) → Some M ≡ slice_get c.modules m → length M.symbols < 4294967296
few c sound m M e =
    ⊎_elim (λ l. l)
    (λ many.
    absurd (∥∥₁_elim sound (hlevel) (λ t. let h = one_of (λ N. length N.symbols) c.modules m M e in let l = t.limits.symbols in let no : ⊥ = omega (arith, h, l, many) in no)))
    (cases_lt (length M.symbols) 4294967296)
