-- What `find_map` answers. Assumes nothing.
use Rattle.std.proofs.Common.{◌≡◌, ℕ, zero, suc, ◌+◌, ◌<◌, List, [], ◌∷◌, Some, None, Option, sym, ap, subst, refl, ◌∙◌, arith}
use Rattle.std.specs.Fn.{Called}
use Rattle.std.specs.Iterator.{AlwaysYields, Yields}
use Rattle.std.specs.Iterator.Runs.{SomeRun, YieldsRun, AllItemsGive, IsFirstToGive}
use Rattle.std.specs.List.{slice_get}
use Rattle.std.specs.Option.{MatchOption, IfSome, IsSomeAnd}
use Rattle.std.specs.Bool.{IsTrue}
use Rattle.std.proofs.lemmas.Iterator.{YieldsList}
use Rattle.chunk_tables.specs.Lists.{maybe, first_found}
use denote.Param.Members.{Mut}

-- the closure f computes h
module _ {S A B F : Type 0} (steps : S → Option A → S → Type 0) (g : Mut F (A × Unit {0}) (Option B)) (h : A → Option B) (f : F) (told : (x : A) (o : Option B) (q : F) → Called g f (x, tt) o q → (q ≡ f) × (o ≡ h x)) where
  -- it answered o at an item
  abbrev Answers : Option B → A → Type 0
  Answers o x = Called g f (x, tt) o f

  -- the first item z came as x
  at_first : (x z : A) (zs : List A) (o : Option B) → x ≡ z → Answers o x → first_found h (z ∷ zs) ≡ maybe o (first_found h zs) Some
  at_first x z zs o same c = ap (λ a. maybe a (first_found h zs) Some) (ap h (sym same) ∙ sym (told x o f c).1)

  none : (xs all : List A) (s t u : S) → AlwaysYields steps (λ x. x) s all → Yields steps s xs t → steps t None u → ((k : ℕ) → IfSome (slice_get xs k) (Answers None)) → first_found h all ≡ None
  none xs [] s t u a w n e = refl
  none [] (z ∷ zs) s t u a w n e = absurd (a.0 u (subst (λ q. steps q None u) (sym w) n))
  none (x ∷ xs) (z ∷ zs) s t u a w n e = let b = a.1 x w.0 w.1 in at_first x z zs None b.0 (e 0) ∙ none xs zs w.0 t u b.1 w.2 n (λ k. e (suc k))

  some : (xs all : List A) (s t : S) (i : ℕ) (y : B) → AlwaysYields steps (λ x. x) s all → Yields steps s xs t → IsSomeAnd (slice_get xs i) (Answers (Some y)) → ((k : ℕ) → k < i → IsSomeAnd (slice_get xs k) (Answers None)) → first_found h all ≡ Some y
  some [] all s t i y a w e m = absurd e
  some (x ∷ xs) [] s t i y a w e m = absurd (a x w.0 w.1)
  some (x ∷ xs) (z ∷ zs) s t zero y a w e m = at_first x z zs (Some y) (a.1 x w.0 w.1).0 e
  some (x ∷ xs) (z ∷ zs) s t (suc i) y a w e m =
      let b = a.1 x w.0 w.1 in
      at_first x z zs None b.0 (m 0 (omega arith)) ∙ some xs zs w.0 t i y b.1 w.2 e (λ k l. m (suc k) (omega arith))

pub find_map_from_yields_List : {S A B F : Type 0} {steps : S → Option A → S → Type 0} {g : Mut F (A × Unit {0}) (Option B)} {s : S} {all : List A} (h : A → Option B) (f : F) (r : Option B)
    → SomeRun steps s (λ p. MatchOption r (IsTrue p.whole × AllItemsGive p g f None) (λ y. (i : ℕ) × (i < p.len) × (p.len ≡ i + 1) × IsFirstToGive p g f (Some y) None i))
    → YieldsList steps (λ x. x) s all → ((x : A) (o : Option B) (q : F) → Called g f (x, tt) o q → (q ≡ f) × (o ≡ h x)) → r ≡ first_found h all
unfolding YieldsRun
find_map_from_yields_List {steps = steps} {g = g} {s = s} {all = all} h f None m e k =
    let p = m.0 in
    let d = p.gave.0 in
    let n = d.2 m.2.0 in
    let each = m.2.1 (λ a r q c. (k a.0 r q c).0) in
    sym
    (none steps g h f k p.items all s d.0 n.0 e.runs (subst (λ q. Yields steps q p.items d.0) m.1 d.1) n.1
    (λ i. subst (λ o. IfSome o (λ x. Called g f (x, tt) None f)) (p.gave.1 i) (each i)))
find_map_from_yields_List {steps = steps} {g = g} {s = s} {all = all} h f (Some y) m e k =
    let p = m.0 in
    let d = p.gave.0 in
    let i = m.2.0 in
    let first = m.2.3 (λ a r q c. (k a.0 r q c).0) in
    sym
    (some steps g h f k p.items all s d.0 i y e.runs (subst (λ q. Yields steps q p.items d.0) m.1 d.1)
    (subst (λ o. IsSomeAnd o (λ x. Called g f (x, tt) (Some y) f)) (p.gave.1 i) first.0)
    (λ j l. subst (λ o. IsSomeAnd o (λ x. Called g f (x, tt) None f)) (p.gave.1 j) (first.1 j l)))
