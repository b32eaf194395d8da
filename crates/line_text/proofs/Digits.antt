-- What a fold over digits that may stop early reads. Assumes nothing.
use Rattle.std.proofs.Common.{◌≡◌, ℕ, ◌+◌, ◌-◌, ◌*◌, ◌^◌, cond, ◌&&◌, ltb, List, [], ◌∷◌, Some, None, Option, MatchOption, length, arith, refl, sym, ap, subst, ◌∙◌}
use Rattle.std.specs.Fn.{Called}
use Rattle.std.specs.Iterator.{AlwaysYields, Yields, TryFoldTurn, TryFoldsItems}
use Rattle.std.specs.List.{FoldsTo}
use Rattle.std.specs.ControlFlow.{continue_value}
use Rattle.std.proofs.lemmas.Iterator.{YieldsList}
use denote.Param.Members.{Mut}
use Rattle.line_text.specs.Numerals.{is_digit, read_on, numeral}

-- the number with one digit more
abbrev pub more : ℕ → ℕ → Option ℕ
more n c = cond (is_digit c && ltb (n * 10 + (c - 48)) (2 ^ 32)) (Some (n * 10 + (c - 48))) None

-- what follows when the next digit is read
on : (n c : ℕ) (cs : List ℕ) (o : Option ℕ) → o ≡ more n c → read_on n (c ∷ cs) ≡ elim o [ Some k ↦ read_on k cs | None ↦ None ]
on n c cs o e = grind arith

abbrev Turns : {A F : Type 0} (E : Type 0) → Mut F (ℕ × (A × Unit {0})) (Option ℕ) → F × ℕ → List A → F × ℕ → Type 0
Turns E g p xs q = FoldsTo (TryFoldTurn g (λ s b. s ≡ continue_value {B = E} b)) p xs q

abbrev End : {A F : Type 0} (E : Type 0) → Mut F (ℕ × (A × Unit {0})) (Option ℕ) → Option ℕ → F × ℕ → Option A → Type 0
End {A} {F} E g r q o = MatchOption o (r ≡ Some q.1) (λ x. (w : Option ℕ) × (h : F) × (e : E) × Called g q.0 (q.1, (x, tt)) w h × (w ≡ None) × (r ≡ None))

module _ {S A F : Type 0} (E : Type 0) (steps : S → Option A → S → Type 0) (v : A → ℕ) (g : Mut F (ℕ × (A × Unit {0})) (Option ℕ)) (f : F)
    (so : (n : ℕ) (x : A) (r : Option ℕ) (q : F) → Called g f (n, (x, tt)) r q → (q ≡ f) × (r ≡ more n (v x))) (r : Option ℕ) (u : S) where
  run : (xs : List A) (all : List ℕ) (s t : S) (n m : ℕ) (q : F) (o : Option A) → AlwaysYields steps v s all → Yields steps s xs t → Turns E g (f, n) xs (q, m) → steps t o u → End E g r (q, m) o → r ≡ read_on n all
  run [] [] s t n m q None a y c l e = e ∙ ap (λ (z : F × ℕ). Some z.1) (sym c)
  run [] [] s t n m q (Some x) a y c l e = absurd (a x u (subst (λ z. steps z (Some x) u) (sym y) l))
  run [] (z ∷ all) s t n m q None a y c l e = absurd (a.0 u (subst (λ z. steps z None u) (sym y) l))
  run [] (z ∷ all) s t n m q (Some x) a y c l e =
      let w = (so n x e.0 e.1 (subst (λ (z : F × ℕ). Called g z.0 (z.1, (x, tt)) e.0 e.1) (sym c) e.3)).1 in
      e.5 ∙ sym (on n z all None (sym e.4 ∙ w ∙ ap (more n) (a.1 x u (subst (λ z. steps z (Some x) u) (sym y) l)).0))
  run (x ∷ xs) [] s t n m q o a y c l e = absurd (a x y.0 y.1)
  run (x ∷ xs) (z ∷ all) s t n m q o a y c l e =
      let b = a.1 x y.0 y.1 in
      let w = so n x c.1.0 c.0.0 c.1.1 in
      run xs all y.0 t c.0.1 m q o b.1 y.2 (subst (λ k. Turns E g (k, c.0.1) xs (q, m)) w.0 c.2) l e
      ∙ sym (on n z all (Some c.0.1) (sym c.1.2 ∙ w.1 ∙ ap (more n) b.0))

  pub reads : (s : S) (all : List ℕ) → TryFoldsItems steps g (λ s b. s ≡ continue_value {B = E} b) (λ _ b. b ≡ None) s f 0 r u → YieldsList steps v s all → (length all ≡ 0 → ⊥) → r ≡ numeral all
  reads s [] d e ne = absurd (ne refl)
  reads s (z ∷ all) d e ne = run d.0 (z ∷ all) s d.4.0 0 d.3 d.2 d.1 e.runs d.4.1 d.5 d.4.2 d.6
