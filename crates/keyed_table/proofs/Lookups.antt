-- Look-ups and changes of entries. Assumes nothing.
use Rattle.std.proofs.Common.{◌≡◌, ℕ, zero, suc, ◌<◌, Bool, true, false, List, [], ◌∷◌, ◌++◌, length, get_or, set, is_some, Some, None, Decides, sym, refl, ap, ◌∙◌, ◌⊎◌, inl, inr, ⊎_elim, arith}
use Rattle.std.specs.Option.{option_map}
use Rattle.std.specs.List.{slice_get}
use Rattle.std.proofs.lemmas.Bool.{cases_lt, false≢true, cases_Bool, cond-true, cond-false}
use Rattle.std.proofs.lemmas.List.{length_push, get_or_push, get_or_append_left}
use Rattle.std.proofs.lemmas.Option.{none-some, slice_get-get_or}
use Rattle.keyed_table.specs.Model.{lookup, put, Last, Absent, Distinct}
use Rattle.keyed_table.specs.declared.slot.Entry.{Entry}
use Rattle.keyed_table.proofs.Held.{front}

module _ {K V : Type 0} (alike : K → K → Bool) where
  pub lookup_at : (es : List (Entry K V)) (k : K) (i : ℕ) (d : Entry K V) → i < length es → alike (get_or es i d).key k ≡ true → ((j : ℕ) → j < i → alike (get_or es j d).key k ≡ false) → lookup alike es k ≡ Some (get_or es i d).value
  lookup_at [] k i d l yes' no' = absurd (omega arith)
  lookup_at (e ∷ es) k zero d l yes' no' = cond-true _ _ _ yes'
  lookup_at (e ∷ es) k (suc i) d l yes' no' = cond-false _ _ _ (no' 0 (omega arith)) ∙ lookup_at es k i d (omega arith) yes' (λ j m. no' (suc j) (omega arith))

  pub lookup_none : (es : List (Entry K V)) (k : K) → Absent alike es k → lookup alike es k ≡ None
  lookup_none [] k no' = refl
  lookup_none (e ∷ es) k no' = cond-false _ _ _ (no' 0 e (omega arith)) ∙ lookup_none es k (λ j d m. no' (suc j) d (omega arith))

  pub absent : (es : List (Entry K V)) (k : K) → lookup alike es k ≡ None → Absent alike es k
  absent [] k none j d l = absurd (omega arith)
  absent (e ∷ es) k none j d l = on (cases_Bool (alike e.key k)) (absent es k) j l
    where
      on : (alike e.key k ≡ true) ⊎ (alike e.key k ≡ false) → (lookup alike es k ≡ None → Absent alike es k) → (i : ℕ) → i < length (e ∷ es) → alike (get_or (e ∷ es) i d).key k ≡ false
      on (inl t) ih i m = absurd (none-some e.value (sym (sym (cond-true _ _ _ t) ∙ none)))
      on (inr f) ih zero m = f
      on (inr f) ih (suc i) m = ih (sym (cond-false _ _ _ f) ∙ none) i d (omega arith)

  pub put_at : (es : List (Entry K V)) (k : K) (v : V) (i : ℕ) (d : Entry K V) → i < length es → alike (get_or es i d).key k ≡ true → ((j : ℕ) → j < i → alike (get_or es j d).key k ≡ false) → put alike es k v ≡ set es i (record { key = k; value = v })
  put_at [] k v i d l yes' no' = absurd (omega arith)
  put_at (e ∷ es) k v zero d l yes' no' = cond-true _ _ _ yes'
  put_at (e ∷ es) k v (suc i) d l yes' no' = cond-false _ _ _ (no' 0 (omega arith)) ∙ ap (λ t. e ∷ t) (put_at es k v i d (omega arith) yes' (λ j m. no' (suc j) (omega arith)))

  pub put_none : (es : List (Entry K V)) (k : K) (v : V) → Absent alike es k → put alike es k v ≡ es ++ record { key = k; value = v } ∷ []
  put_none [] k v no' = refl
  put_none (e ∷ es) k v no' = cond-false _ _ _ (no' 0 e (omega arith)) ∙ ap (λ t. e ∷ t) (put_none es k v (λ j d m. no' (suc j) d (omega arith)))

  module _ (tells : (x y : K) → Decides (alike x y) (x ≡ y)) where
    pub names_key : (e : Entry K V) (k : K) → alike e.key k ≡ true → e.key ≡ k
    names_key e k h = (tells e.key k).0 h

    module _ (es : List (Entry K V)) (k : K) (apart : Distinct es) where
      -- no other place has the key
      only : (i j : ℕ) (d : Entry K V) → i < length es → alike (get_or es i d).key k ≡ true → j < i → alike (get_or es j d).key k ≡ false
      only i j d l here m =
          ⊎_elim
          (λ there. absurd (apart (record {
            i = j;
            j = i;
            d = d;
            less = m;
            within = l;
            key = names_key (get_or es j d) k there ∙ sym (names_key (get_or es i d) k here);
          })))
          (λ e. e)
          (cases_Bool (alike (get_or es j d).key k))

      module _ (i : ℕ) (s : Last alike es k i) where
        pub lookup_sought : lookup alike es k ≡ option_map (λ e. e.value) (slice_get es i)
        lookup_sought =
            let l = s.within in
            let d = front es (omega arith) in
            lookup_at es k i d l (s.here d) (λ j. only i j d l (s.here d)) ∙ sym (ap (option_map (λ e. e.value)) (slice_get-get_or es i d l))

        pub sought_there : is_some (lookup alike es k) ≡ true
        sought_there = let l = s.within in ap is_some (lookup_sought ∙ ap (option_map (λ e. e.value)) (slice_get-get_or es i (front es (omega arith)) l))

        pub put_sought : (v : V) → put alike es k v ≡ set es i (record { key = k; value = v })
        put_sought v = let d : Entry K V = record { key = k; value = v } in put_at es k v i d s.within (s.here d) (λ j. only i j d s.within (s.here d))

      -- a key that is not there can be put behind the others
      pub distinct_push : (e : Entry K V) → e.key ≡ k → Absent alike es k → Distinct (es ++ e ∷ [])
      distinct_push e key s c =
          let w = c.within in
          let l = c.less in
          let n = length_push es e in
          let left = get_or_append_left es (e ∷ []) c.d c.i (omega arith) in
          ⊎_elim
          (λ m.
          let right = get_or_append_left es (e ∷ []) c.d c.j m in
          apart (record {
            i = c.i;
            j = c.j;
            d = c.d;
            less = l;
            within = m;
            key = sym (ap (λ x. x.key) left) ∙ c.key ∙ ap (λ x. x.key) right;
          }))
          (λ m.
          let right = get_or_push es e c.d c.j (omega arith) in
          let same_key : (get_or es c.i c.d).key ≡ k = sym (ap (λ x. x.key) left) ∙ c.key ∙ ap (λ x. x.key) right ∙ key in
          false≢true (sym (s c.i c.d (omega arith)) ∙ (tells _ _).1 same_key))
          (cases_lt c.j (length es))
