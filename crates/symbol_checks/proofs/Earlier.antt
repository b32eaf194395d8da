-- Whether an earlier row passes a test. Assumes nothing.
use Rattle.std.proofs.Common.{◌≡◌, ℕ, zero, suc, ◌+◌, ◌≤◌, Bool, true, false, ◌&&◌, ltb, Some, None, Option, List, [], ◌∷◌, take, sym, refl, ap, ◌∙◌, arith}
use Rattle.std.specs.Option.{MatchOption}
use Rattle.std.proofs.lemmas.Bool.Decides.{nat_tests}
use Rattle.std.specs.List.{list_any}
use Rattle.chunk_tables.specs.Bindings.{binds_in, bound_in}
use Rattle.chunk_tables.specs.Model.{Symbol, Module}
use Rattle.chunk_faults.specs.SymbolRows.{clashes}
use Rattle.chunk_tables.specs.Lists.{maybe, place_from, place}

module _ {A : Type 0} (p : A → Bool) where
  -- no row is found before the first one
  none_before : (k : ℕ) (xs : List A) (n : ℕ) → n ≤ k → maybe (place_from k p xs) false (λ j. ltb j n) ≡ false
  none_before k [] n h = refl
  none_before k (x ∷ xs) n h = grind (arith, nat_tests, none_before (suc k) xs n)

  earlier_from : (k i : ℕ) (xs : List A) → list_any p (take i xs) ≡ maybe (place_from k p xs) false (λ j. ltb j (k + i))
  earlier_from k zero xs = sym (none_before k xs (k + 0) (omega arith))
  earlier_from k (suc i) [] = refl
  earlier_from k (suc i) (x ∷ xs) = grind (arith, nat_tests, earlier_from (suc k) i xs)

  -- a row before number i passes the test just where the first one that does has a smaller number
  pub earlier : (i : ℕ) (xs : List A) → list_any p (take i xs) ≡ maybe (place p xs) false (λ j. ltb j i)
  earlier i xs = let e : 0 + i ≡ i = omega arith in earlier_from 0 i xs ∙ ap (λ n. maybe (place p xs) false (λ j. ltb j n)) e

some_and : (o : Option ℕ) (r : Bool) (P : ℕ → Type 0) (p : ℕ → Bool) → MatchOption o (r ≡ false) P → ((j : ℕ) → P j → r ≡ p j) → r ≡ maybe o false p
some_and None r P p m h = m
some_and (Some j) r P p m h = h j m

-- a bound symbol clashes where the first binding of its name in its scope has a smaller number
pub clashes_by_first : (M : Module) (i : ℕ) (y : Symbol) {n : List ℕ} {o : Option ℕ} {r : Bool} {P : ℕ → Type 0} → y.bound ≡ true → n ≡ y.name → o ≡ bound_in M y.scope n → MatchOption o (r ≡ false) P → ((j : ℕ) → P j → r ≡ ltb j i) → r ≡ clashes M i y
clashes_by_first M i y {n} {o} b e h m t =
    some_and o _ _ (λ j. ltb j i) m t ∙ ap (λ v. maybe v false (λ j. ltb j i)) (h ∙ ap (bound_in M y.scope) e)
    ∙ sym (earlier (binds_in y.scope y.name) i M.symbols)
    ∙ sym (ap (λ t. t && list_any (binds_in y.scope y.name) (take i M.symbols)) b)
