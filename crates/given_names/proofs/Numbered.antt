-- The symbols of modules numbered through, module by module. Assumes nothing.
use Rattle.std.proofs.Common.{◌≡◌, ℕ, zero, suc, ◌+◌, ◌<◌, true, List, [], ◌∷◌, length, is_some, None, Option, refl, ap, arith}
use Rattle.std.specs.List.{slice_get}
use Rattle.std.proofs.lemmas.Bool.{false≢true}
use Rattle.chunk_tables.specs.Lists.{maybe}
use Rattle.chunk_tables.specs.Model.{Symbol, Module}
use Rattle.chunk_tables.specs.Limits.{in_all}

-- how many symbols all modules have together
abbrev pub in_modules : List Module → ℕ
in_modules Ms = in_all (λ M. length M.symbols) Ms

-- the s-th symbol of the o-th module
abbrev pub symbol_in : List Module → ℕ → ℕ → Option Symbol
symbol_in Ms o s = maybe (slice_get Ms o) None (λ M. slice_get M.symbols s)

-- its number among the symbols of all modules
abbrev pub number_in : List Module → ℕ → ℕ → ℕ
number_in [] o s = s
number_in (M ∷ Ms) zero s = s
number_in (M ∷ Ms) (suc o) s = length M.symbols + number_in Ms o s

pub below_length : {A : Type 0} (xs : List A) (i : ℕ) → is_some (slice_get xs i) ≡ true → i < length xs
below_length [] i h = absurd (false≢true h)
below_length (x ∷ xs) zero h = omega arith
below_length (x ∷ xs) (suc i) h = omega (arith, below_length xs i h)

pub number_below : (Ms : List Module) (o s : ℕ) → is_some (symbol_in Ms o s) ≡ true → number_in Ms o s < in_modules Ms
number_below [] o s h = absurd (false≢true h)
number_below (M ∷ Ms) zero s h = omega (arith, below_length M.symbols s h)
number_below (M ∷ Ms) (suc o) s h = omega (arith, number_below Ms o s h)

-- two symbols have two numbers
pub number_tells : (Ms : List Module) (o s p t : ℕ) → is_some (symbol_in Ms o s) ≡ true → is_some (symbol_in Ms p t) ≡ true → number_in Ms o s ≡ number_in Ms p t → (o ≡ p) × (s ≡ t)
number_tells [] o s p t h k e = absurd (false≢true h)
number_tells (M ∷ Ms) zero s zero t h k e = (refl, e)
number_tells (M ∷ Ms) zero s (suc p) t h k e = absurd (omega (arith, below_length M.symbols s h))
number_tells (M ∷ Ms) (suc o) s zero t h k e = absurd (omega (arith, below_length M.symbols t k))
number_tells (M ∷ Ms) (suc o) s (suc p) t h k e =
    let same = number_tells Ms o s p t h k (omega arith) in (ap suc same.0, same.1)
