-- What the slots of a table hold. Assumes nothing.
use Rattle.std.proofs.Common.{◌≡◌, ℕ, zero, suc, ◌+◌, ◌%◌, ◌<◌, ◌≤◌, true, List, [], ◌∷◌, ◌++◌, length, get_or, take, is_some, Some, None, Option, sym, refl, ap, ◌∙◌, subst, arith}
use Rattle.std.specs.Option.{option_to_list}
use Rattle.std.specs.List.{flat_map}
use Rattle.std.proofs.lemmas.List.{take_more, flat_map_more, nil_from_length, get_or-map}
use Rattle.std.proofs.lemmas.Bool.{false≢true}
use Rattle.keyed_table.specs.Links.{held, homes, Full}
use Rattle.keyed_table.specs.declared.slot.Entry.{Entry}
use Rattle.keyed_table.specs.declared.slot.Slot.{Slot}

pub front : {X : Type 0} (xs : List X) → 0 < length xs → X
front [] l = absurd (omega arith)
front (x ∷ xs) l = x

pub some_of : {X : Type 0} (o : Option X) → is_some o ≡ true → (x : X) × (o ≡ Some x)
some_of (Some x) e = (x, refl)
some_of None e = absurd (false≢true e)

module _ {K V : Type 0} where
  -- es is what the first n slots hold
  abbrev pub Shows : List (Slot K V) → ℕ → List (Entry K V) → Type 0
  Shows ss n es = (length es ≡ n) × ((i : ℕ) (d : Slot K V) (e : Entry K V) → i < n → (get_or ss i d).entry ≡ Some (get_or es i e))

  pub full_from_shows : (ss : List (Slot K V)) (n : ℕ) (es : List (Entry K V)) (e : Entry K V) → Shows ss n es → Full ss n
  full_from_shows ss n es e h i d l = ap is_some (h.1 i d e l)

  pub held_is : (ss : List (Slot K V)) (n : ℕ) (es : List (Entry K V)) → n ≤ length ss → Shows ss n es → held ss n ≡ es
  held_is ss zero es h s = sym (nil_from_length es s.0)
  held_is [] (suc n) es h s = absurd (omega arith)
  held_is (x ∷ ss) (suc n) [] h s = absurd (omega arith)
  held_is (x ∷ ss) (suc n) (e ∷ es) h s =
      ap (λ o. option_to_list o ++ held ss n) (s.1 0 x e (omega arith))
      ∙ ap (λ t. e ∷ t) (held_is ss n es (omega arith) (omega arith, λ i d y l. s.1 (suc i) d y (omega arith)))

  shows_cons : (ss : List (Slot K V)) (x : Slot K V) (n : ℕ) (y : Entry K V) (es : List (Entry K V)) → x.entry ≡ Some y → Shows ss n es → (i : ℕ) (d : Slot K V) (e : Entry K V) → i < suc n → (get_or (x ∷ ss) i d).entry ≡ Some (get_or (y ∷ es) i e)
  shows_cons ss x n y es p h zero d e l = p
  shows_cons ss x n y es p h (suc i) d e l = h.1 i d e (omega arith)

  pub shows_held : (ss : List (Slot K V)) (n : ℕ) → n ≤ length ss → Full ss n → Shows ss n (held ss n)
  shows_held ss zero h f = (refl, λ i d e l. absurd (omega arith))
  shows_held [] (suc n) h f = absurd (omega arith)
  shows_held (x ∷ ss) (suc n) h f =
      let p = some_of x.entry (f 0 x (omega arith)) in
      let is : held (x ∷ ss) (suc n) ≡ p.0 ∷ held ss n = ap (λ o. option_to_list o ++ held ss n) p.1 in
      let ih = shows_held ss n (omega arith) (λ i d l. f (suc i) d (omega arith)) in
      subst (Shows (x ∷ ss) (suc n)) (sym is) (ap suc ih.0, shows_cons ss x n p.0 (held ss n) p.1 ih)

  -- the home of each entry
  pub get_or_homes : (hashed : K → ℕ) (cap : ℕ) (es : List (Entry K V)) (i : ℕ) (d : Entry K V) → i < length es → get_or (homes hashed cap es) i 0 ≡ hashed (get_or es i d).key % cap
  get_or_homes hashed cap es i d l = get_or-map (λ e. hashed e.key % cap) es i d 0 l

  -- one slot more
  pub held_more : (ss : List (Slot K V)) (i : ℕ) (d : Slot K V) → i < length ss → held ss (i + 1) ≡ held ss i ++ option_to_list (get_or ss i d).entry
  held_more ss i d l =
      ap (flat_map (λ s. option_to_list s.entry)) (take_more ss i d l) ∙ sym (flat_map_more (λ s. option_to_list s.entry) [] (take i ss) (get_or ss i d))
