-- What a test tells where it fails. Assumes nothing.
use Rattle.std.proofs.Common.{◌≡◌, ℕ, zero, suc, ◌+◌, ◌<◌, Bool, true, false, not, ◌&&◌, eqb, ltb, List, [], ◌∷◌, map, length, take, is_some as option_is_some, Some, None, Option, sym, refl, ap, ◌∙◌, ⊎_elim, arith}
use Rattle.std.specs.List.{list_any, flat_map, slice_get}
use Rattle.std.specs.Option.{option_map}
use Rattle.std.proofs.lemmas.Slice.Eq.{bytes_eq-Decides}
use Rattle.std.proofs.lemmas.Bool.{both_ways, not-false, ltb-true, leb-true, eqb-true, eq-eqb, and_from, and_parts, or_parts, or_cases, cases_order}
use Rattle.keys.specs.declared.refs.SymbolRef.{SymbolRef}
use Rattle.names.specs.Bases.{is_base}
use Rattle.chunk_tables.specs.Bindings.{binds_in, root_import}
use Rattle.chunk_tables.specs.Lists.{maybe, first_found}
use Rattle.chunk_tables.specs.Model.{Name, Symbol, Module, Chunk}
use Rattle.std.proofs.lemmas.Option.{slice_get-map}
use Rattle.chunk_faults.specs.Numbers.{is_symbol, strays, missing, dangles}
use Rattle.chunk_faults.specs.Sound.{Fit, There, RootImport}
use Rattle.chunk_faults.specs.SymbolRows.{clashes}
use Rattle.chunk_faults.specs.Tests.{Test, least, each_from}
use Rattle.chunk_faults.proofs.Firsts.{none_some, some_same, found_none, nth_each}
use Rattle.chunk_faults.proofs.Loops.{over_joined}

-- a record of which no test holds
abbrev pub Fails : List Test → Type 0
Fails [] = Unit {0}
Fails (t ∷ ts) = (t.1 ≡ false) × Fails ts

pub fails : (ts : List Test) → least ts ≡ None → Fails ts
fails [] e = tt
fails ((n, true) ∷ ts) e = absurd (none_some (sym e))
fails ((n, false) ∷ ts) e = (refl, fails ts e)

-- rows of which none is refused
module _ {A : Type 0} where
  pub row_passes : (f : ℕ → A → List Test) (xs : List A) → first_found least (each_from 0 f xs) ≡ None → (i : ℕ) (x : A) → slice_get xs i ≡ Some x → least (f i x) ≡ None
  row_passes f xs e i x h =
      let z : 0 + i ≡ i = omega arith in
      found_none least (each_from 0 f xs) e i (f i x) (nth_each f 0 xs i ∙ ap (λ k. option_map (f k) (slice_get xs i)) z ∙ ap (option_map (f i)) h)

  pub entry_passes : (f : A → List Test) (xs : List A) → first_found least (map f xs) ≡ None → (i : ℕ) (x : A) → slice_get xs i ≡ Some x → least (f x) ≡ None
  entry_passes f xs e i x h = found_none least (map f xs) e i (f x) (slice_get-map f xs i ∙ ap (option_map f) h)

  pub part_passes : (h : A → List (List Test)) (xs : List A) → first_found least (flat_map h xs) ≡ None → (i : ℕ) (x : A) → slice_get xs i ≡ Some x → first_found least (h x) ≡ None
  part_passes h xs e i x p = found_none (λ y. first_found least (h y)) xs (over_joined least h xs ∙ e) i x p

-- options
pub is_some : {A : Type 0} (o : Option A) → option_is_some o ≡ true → (a : A) × (o ≡ Some a)
is_some None e = absurd (both_ways false refl e)
is_some (Some a) e = (a, refl)

pub is_none : {A : Type 0} (o : Option A) → option_is_some o ≡ false → o ≡ None
is_none None e = refl
is_none (Some a) e = absurd (both_ways true e refl)

pub at_some : {A : Type 0} (o : Option A) (f : A → Bool) (a : A) → o ≡ Some a → maybe o false f ≡ false → f a ≡ false
at_some o f a e h = sym (ap (λ v. maybe v false f) e) ∙ h

-- numbers
pub below : (a b : ℕ) → not (ltb a b) ≡ false → a < b
below a b e = ltb-true a b (not-false (ltb a b) e)

module _ (c : Chunk) where
  pub there : (q : SymbolRef) → missing c q ≡ false → There c q
  there q e = is_some _ (not-false _ e)

  pub leads : (o : Option SymbolRef) (q : SymbolRef) → dangles c o ≡ false → o ≡ Some q → There c q
  leads o q e h = there q (at_some o (missing c) q h e)

pub own_number : (M : Module) (o : Option ℕ) (i : ℕ) → strays M o ≡ false → o ≡ Some i → i < length M.symbols
own_number M o i e h = below i (length M.symbols) (at_some o (λ k. not (is_symbol M k)) i h e)

pub fit : (n : Name) → not (is_base n) ≡ false → Fit n
fit n e =
    let p = and_parts _ _ (not-false (is_base n) e) in
    let a = ltb-true 0 (length n) p.0 in
    (omega arith, leb-true (length n) 100 p.1)

-- lists
pub any_nth : {A : Type 0} (p : A → Bool) (xs : List A) (k : ℕ) (x : A) → list_any p xs ≡ false → slice_get xs k ≡ Some x → p x ≡ false
any_nth p [] k x e h = absurd (none_some h)
any_nth p (y ∷ xs) zero x e h = ap p (sym (some_same h)) ∙ (or_parts (p y) (list_any p xs) e).0
any_nth p (y ∷ xs) (suc k) x e h = any_nth p xs k x (or_parts (p y) (list_any p xs) e).1 h

pub any_found : {A : Type 0} (p : A → Bool) (xs : List A) → list_any p xs ≡ true → (k : ℕ) × ((x : A) × ((slice_get xs k ≡ Some x) × (p x ≡ true)))
any_found p [] e = absurd (both_ways false refl e)
any_found p (y ∷ xs) e =
    ⊎_elim (λ t. (0, (y, (refl, t)))) (λ t. let r = any_found p xs t in (suc r.0, r.1)) (or_cases (p y) (list_any p xs) e)

pub nth_take : {A : Type 0} (n : ℕ) (xs : List A) (k : ℕ) → k < n → slice_get (take n xs) k ≡ slice_get xs k
nth_take zero xs k l = absurd (omega arith)
nth_take (suc n) [] k l = refl
nth_take (suc n) (x ∷ xs) zero l = refl
nth_take (suc n) (x ∷ xs) (suc k) l = nth_take n xs k (omega arith)

pub nth_within : {A : Type 0} (xs : List A) (k : ℕ) → k < length xs → (x : A) × (slice_get xs k ≡ Some x)
nth_within [] k l = absurd (omega arith)
nth_within (x ∷ xs) zero l = (x, refl)
nth_within (x ∷ xs) (suc k) l = nth_within xs k (omega arith)

-- a root named import
pub root_import_lem : (M : Module) (i : ℕ) (y : Symbol) → slice_get M.symbols i ≡ Some y → root_import M i ≡ true → RootImport M i y
root_import_lem M i y h e =
    let p = and_parts _ _ (sym (ap (λ o. maybe o false (λ x. eqb x.scope 0 && list_any (eqb i) M.imports)) h) ∙ e) in
    let r = any_found (eqb i) M.imports p.1 in
    (eqb-true y.scope 0 p.0, (r.0, r.1.1.0 ∙ ap Some (sym (eqb-true i r.1.0 r.1.1.1))))

-- two bindings of one name in one scope are one
module _ (M : Module) (unclashed : (i : ℕ) (y : Symbol) → slice_get M.symbols i ≡ Some y → clashes M i y ≡ false) where
  earlier_differs : (j i : ℕ) (x y : Symbol) → j < i → slice_get M.symbols j ≡ Some x → slice_get M.symbols i ≡ Some y → x.bound ≡ true → y.bound ≡ true → x.scope ≡ y.scope → x.name ≡ y.name → ⊥
  earlier_differs j i x y l hx hy bx by es en =
      let free : list_any (binds_in y.scope y.name) (take i M.symbols) ≡ false = sym (ap (λ b. b && list_any (binds_in y.scope y.name) (take i M.symbols)) by) ∙ unclashed i y hy in
      both_ways (binds_in y.scope y.name x)
      (any_nth (binds_in y.scope y.name) (take i M.symbols) j x free (nth_take i M.symbols j l ∙ hx))
      (and_from _ _ (eq-eqb x.scope y.scope es) (and_from _ _ bx ((bytes_eq-Decides x.name y.name).1 en)))

  pub bindings_apart : (j i : ℕ) (x y : Symbol) → slice_get M.symbols j ≡ Some x → slice_get M.symbols i ≡ Some y → x.bound ≡ true → y.bound ≡ true → x.scope ≡ y.scope → x.name ≡ y.name → j ≡ i
  bindings_apart j i x y hx hy bx by es en =
      ⊎_elim (λ e. e)
      (⊎_elim (λ l. absurd (earlier_differs j i x y l hx hy bx by es en)) (λ l. absurd (earlier_differs i j y x l hy hx by bx (sym es) (sym en))))
      (cases_order j i)
