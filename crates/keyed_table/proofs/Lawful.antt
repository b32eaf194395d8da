-- The laws of look-ups and changes. Assumes nothing.
use Rattle.std.proofs.Common.{◌≡◌, Bool, cond, List, [], ◌∷◌, Some, Decides, sym, refl, ap, ◌∙◌, ⊎_elim}
use Rattle.std.proofs.lemmas.Bool.{cases_Bool, cond-true, cond-false}
use Rattle.keyed_table.specs.Laws.{Laws}
use Rattle.keyed_table.specs.Model.{lookup, put}
use Rattle.keyed_table.specs.declared.slot.Entry.{Entry}

module _ {K V : Type 0} (alike : K → K → Bool) (tells : (x y : K) → Decides (alike x y) (x ≡ y)) where
  itself : (es : List (Entry K V)) (k : K) (v : V) → lookup alike (put alike es k v) k ≡ Some v
  itself [] k v = cond-true _ _ _ ((tells k k).1 refl)
  itself (e ∷ es) k v =
      ⊎_elim
      (λ t. ap (λ l. lookup alike l k) (cond-true _ _ _ t) ∙ cond-true _ _ _ ((tells k k).1 refl))
      (λ f. ap (λ l. lookup alike l k) (cond-false _ _ _ f) ∙ cond-false _ _ _ f ∙ itself es k v)
      (cases_Bool (alike e.key k))

  -- an entry of another key does not count
  skips : (e : Entry K V) (es : List (Entry K V)) (q : K) → (e.key ≡ q → ⊥) → lookup alike (e ∷ es) q ≡ lookup alike es q
  skips e es q ne = cond-false _ _ _ (⊎_elim (λ t. absurd (ne ((tells e.key q).0 t))) (λ f. f) (cases_Bool (alike e.key q)))

  others : (es : List (Entry K V)) (k q : K) (v : V) → (k ≡ q → ⊥) → lookup alike (put alike es k v) q ≡ lookup alike es q
  others [] k q v ne = skips (record { key = k; value = v }) [] q ne
  others (e ∷ es) k q v ne =
      ⊎_elim
      (λ t. ap (λ l. lookup alike l q) (cond-true _ _ _ t) ∙ skips (record { key = k; value = v }) es q ne ∙ sym (skips e es q (λ p. ne (sym ((tells e.key k).0 t) ∙ p))))
      (λ f. ap (λ l. lookup alike l q) (cond-false _ _ _ f) ∙ ap (cond (alike e.key q) (Some e.value)) (others es k q v ne))
      (cases_Bool (alike e.key k))

  pub laws : Laws K V alike
  laws = record { itself = itself; others = others }
