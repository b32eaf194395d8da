-- The inner symbol whose name passes a test. Assumes nothing.
use Rattle.std.proofs.Common.{◌≡◌, ℕ, zero, suc, Bool, true, List, [], ◌∷◌, Some, None, Option, refl, ap, ◌∙◌, ⊎_elim, arith}
use Rattle.std.specs.List.{flat_map, list_any, slice_get}
use Rattle.std.specs.Str.{bytes_eq}
use Rattle.std.proofs.lemmas.Bool.{cases_Bool, false≢true}
use Rattle.std.proofs.lemmas.List.Folds.{list_any-append}
use Rattle.std.proofs.lemmas.Slice.Eq.{bytes_eq-Decides}
use Rattle.chunk_tables.specs.Lists.{maybe}
use Rattle.chunk_tables.specs.Model.{Name, Module, Chunk}
use Rattle.policies.specs.InnerNames.{is_inner_name, symbol_names, module_names, member_names, inner_names}
use Rattle.policies.specs.Laws.{InnerSymbol, NamesOfInnerSymbols, NoOtherNames}

module _ {X A : Type 0} (p : A → Bool) (f : X → List A) where
  -- the row whose part passes
  found : (xs : List X) → list_any p (flat_map f xs) ≡ true → (k : ℕ) × ((x : X) × (slice_get xs k ≡ Some x) × (list_any p (f x) ≡ true))
  found [] e = absurd (false≢true e)
  found (x ∷ xs) e =
      let parts = list_any-append p (f x) (flat_map f xs) in
      ⊎_elim (λ t. (0, (x, refl, t)))
      (λ none. let rest : list_any p (flat_map f xs) ≡ true = grind arith in let r = found xs rest in (suc r.0, r.1))
      (cases_Bool (list_any p (f x)))

  passes : (xs : List X) (k : ℕ) (x : X) → slice_get xs k ≡ Some x → list_any p (f x) ≡ true → list_any p (flat_map f xs) ≡ true
  passes [] k x there e = cc
  passes (y ∷ xs) zero x there e = let same : y ≡ x = cc in list_any-append p (f y) (flat_map f xs) ∙ grind arith
  passes (y ∷ xs) (suc k) x there e = let rest = passes xs k x there e in list_any-append p (f y) (flat_map f xs) ∙ grind arith

module _ (p : Name → Bool) (c : Chunk) where
  pub found_symbol : list_any p (inner_names c) ≡ true → (s : InnerSymbol c) × (p s.symbol.name ≡ true)
  found_symbol e =
      let r = found p (member_names c) c.members e in
      in_member r.0 r.1.0 (slice_get c.modules r.1.0) r.1.1 refl r.1.2
    where
      in_member : (k m : ℕ) (o : Option Module) → slice_get c.members k ≡ Some m → slice_get c.modules m ≡ o → list_any p (maybe o [] module_names) ≡ true → (s : InnerSymbol c) × (p s.symbol.name ≡ true)
      in_member k m None member known e = absurd (false≢true e)
      in_member k m (Some M) member known e =
          let r = found p (symbol_names M) M.symbols e in
          let inner : is_inner_name M r.1.0 ≡ true = grind (arith, r.1.2) in
          (record { place = k; owner = m; home = M; number = r.0; symbol = r.1.0; member = member; known = known; stands = r.1.1; inner = inner }, grind (arith, r.1.2))

  passes_symbol : (s : InnerSymbol c) → p s.symbol.name ≡ true → list_any p (inner_names c) ≡ true
  passes_symbol s e =
      passes p (member_names c) c.members s.place s.owner s.member
      (ap (λ o. list_any p (maybe o [] module_names)) s.known ∙ passes p (symbol_names s.home) s.home.symbols s.number s.symbol s.stands (let inner = s.inner in grind arith))

pub names_of_symbols : NamesOfInnerSymbols
names_of_symbols c s = passes_symbol (λ x. bytes_eq x s.symbol.name) c s ((bytes_eq-Decides s.symbol.name s.symbol.name).1 refl)

pub no_other_names : NoOtherNames
no_other_names c n e = let r = found_symbol (λ x. bytes_eq x n) c e in (r.0, (bytes_eq-Decides r.0.symbol.name n).0 r.1)
