-- The names of symbols after one more was given. Assumes nothing.
use Rattle.std.proofs.Common.{◌≡◌, ℕ, zero, suc, Bool, true, false, cond, ◌⊎◌, List, [], ◌∷◌, ◌++◌, length, Some, None, Option, refl, sym, ap, ◌∙◌, inl, inr}
use Rattle.std.specs.List.{slice_get}
use Rattle.std.proofs.lemmas.Bool.{and_parts, and_from, both_ways, eq-eqb, eqb-true}
use Rattle.std.proofs.lemmas.Option.{none-some, same_Some}
use Rattle.keys.specs.declared.refs.SymbolRef.{SymbolRef}
use Rattle.chunk_tables.specs.Lists.{maybe}
use Rattle.chunk_tables.specs.Model.{Name}
use Rattle.session_rules.specs.Session.{Given, same_symbol, name_of}
use Rattle.session_rules.specs.Rules.{to_symbol}

same_is : (p q : SymbolRef) → same_symbol p q ≡ true → p ≡ q
same_is p q e =
    let (a, b) = and_parts _ _ e in
    let f : p.owner ≡ q.owner = eqb-true _ _ a in
    let g : p.symbol ≡ q.symbol = eqb-true _ _ b in
    λ i. record { owner = f i; symbol = g i }

same_symbol_of : (p q : SymbolRef) → p ≡ q → same_symbol p q ≡ true
same_symbol_of p q e = and_from _ _ (eq-eqb p.owner q.owner (ap (λ r. r.owner) e)) (eq-eqb p.symbol q.symbol (ap (λ r. r.symbol) e))

name_added : (gs : List Given) (q r : SymbolRef) (n : Name) → name_of (to_symbol q n gs) r ≡ maybe (name_of gs r) (cond (same_symbol q r) (Some n) None) Some
name_added [] q r n = refl
name_added (g ∷ gs) q r n = on (same_symbol g.symbol r) (name_added gs q r n)
  where
    on : (t : Bool) → name_of (to_symbol q n gs) r ≡ maybe (name_of gs r) (cond (same_symbol q r) (Some n) None) Some
        → cond t (Some g.name) (name_of (to_symbol q n gs) r) ≡ maybe (cond t (Some g.name) (name_of gs r)) (cond (same_symbol q r) (Some n) None) Some
    on true ih = refl
    on false ih = ih

-- a symbol's name stays
pub name_stays : (gs : List Given) (q r : SymbolRef) (n m : Name) → name_of gs r ≡ Some m → name_of (to_symbol q n gs) r ≡ Some m
name_stays gs q r n m e = rw (name_added gs q r n, e) refl

-- a name was there, or is the new one
pub name_comes : (gs : List Given) (q r : SymbolRef) (n m : Name) → name_of (to_symbol q n gs) r ≡ Some m → (name_of gs r ≡ Some m) ⊎ ((q ≡ r) × (n ≡ m))
name_comes gs q r n m e = on (name_of gs r) (same_symbol q r) refl (rw (name_added gs q r n) at e)
  where
    on : (o : Option Name) (t : Bool) → same_symbol q r ≡ t → maybe o (cond t (Some n) None) Some ≡ Some m → (o ≡ Some m) ⊎ ((q ≡ r) × (n ≡ m))
    on (Some a) t s f = inl f
    on None true s f = inr (same_is q r s, cc)
    on None false s f = inl f

-- the new one is the symbol's where it had none
pub name_new : (gs : List Given) (q : SymbolRef) (n : Name) → name_of gs q ≡ None → name_of (to_symbol q n gs) q ≡ Some n
name_new gs q n e = rw (name_added gs q q n, e, same_symbol_of q q refl) refl

-- a symbol that has no name stands at no place
unnamed_nowhere : (gs : List Given) (q : SymbolRef) → name_of gs q ≡ None → (k : ℕ) (g : Given) → slice_get gs k ≡ Some g → g.symbol ≡ q → ⊥
unnamed_nowhere [] q e k g h s = none-some g h
unnamed_nowhere (x ∷ gs) q e k g h s = on (same_symbol x.symbol q) refl e (unnamed_nowhere gs q) k h
  where
    on : (t : Bool) → same_symbol x.symbol q ≡ t → cond t (Some x.name) (name_of gs q) ≡ None
        → (name_of gs q ≡ None → (j : ℕ) (f : Given) → slice_get gs j ≡ Some f → f.symbol ≡ q → ⊥) → (j : ℕ) → slice_get (x ∷ gs) j ≡ Some g → ⊥
    on true t e ih j f = none-some x.name (sym e)
    on false t e ih zero f =
        let same : x.symbol ≡ q = ap (λ v. v.symbol) (same_Some x g f) ∙ s in
        both_ways (same_symbol x.symbol q) t (same_symbol_of x.symbol q same)
    on false t e ih (suc j) f = ih e j g f s

-- an element of a list with one more stands in the list, or is that one, behind it
placed : {X : Type 0} (xs : List X) (x y : X) (k : ℕ) → slice_get (xs ++ x ∷ []) k ≡ Some y → (slice_get xs k ≡ Some y) ⊎ ((k ≡ length xs) × (x ≡ y))
placed [] x y zero e = inr (refl, same_Some x y e)
placed [] x y (suc k) e = inl e
placed (z ∷ xs) x y zero e = inl e
placed (z ∷ xs) x y (suc k) e = elim (placed xs x y k e) [ inl f ↦ inl f | inr f ↦ inr (ap suc f.0, f.1) ]

-- where one that has no name is named, no symbol is named twice still
module _ (gs : List Given) (q : SymbolRef) (n : Name) (none : name_of gs q ≡ None) where
  abbrev new : Given
  new = record { symbol = q; name = n }

  pub once_more : ((j k : ℕ) (g h : Given) → slice_get gs j ≡ Some g → slice_get gs k ≡ Some h → g.symbol ≡ h.symbol → j ≡ k)
      → (j k : ℕ) (g h : Given) → slice_get (to_symbol q n gs) j ≡ Some g → slice_get (to_symbol q n gs) k ≡ Some h → g.symbol ≡ h.symbol → j ≡ k
  once_more once j k g h e f same = on (placed gs new g j e) (placed gs new h k f)
    where
      on : (slice_get gs j ≡ Some g) ⊎ ((j ≡ length gs) × (record { symbol = q; name = n } ≡ g)) → (slice_get gs k ≡ Some h) ⊎ ((k ≡ length gs) × (record { symbol = q; name = n } ≡ h)) → j ≡ k
      on (inl a) (inl b) = once j k g h a b same
      on (inl a) (inr b) = absurd (unnamed_nowhere gs q none j g a (same ∙ ap (λ v. v.symbol) (sym b.1)))
      on (inr a) (inl b) = absurd (unnamed_nowhere gs q none k h b (sym same ∙ ap (λ v. v.symbol) (sym a.1)))
      on (inr a) (inr b) = a.0 ∙ sym b.0
