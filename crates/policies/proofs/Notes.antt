-- Names that are put into a table, one after another. Assumes nothing.
use Rattle.std.proofs.Common.{◌≡◌, ℕ, ◌+◌, ◌<◌, ◌≤◌, cond, ltb, ◌||◌, List, [], ◌∷◌, ◌++◌, length, get_or, take, drop, is_ok, is_some, Ok, Err, Result, IfErr, sym, refl, ap, ◌∙◌, subst, inl, inr, ⊎_elim, arith, length-append}
use Rattle.std.specs.List.{flat_map}
use Rattle.std.specs.Str.{bytes_eq}
use Rattle.std.proofs.lemmas.Bool.{cases_Bool}
use Rattle.std.proofs.lemmas.Bool.Decides.{nat_tests}
use Rattle.std.proofs.lemmas.Grind.{flat_map-append}
use Rattle.std.proofs.lemmas.List.{take_more, take_all, take-append-drop, flat_map_more}
use Rattle.std.proofs.lemmas.List.Folds.{list_any-append}
use Rattle.names.proofs.Padding.{name_decides}
use Rattle.names.specs.Refusals.{number_of}
use Rattle.names.specs.Spelt.{spelt}
use Rattle.names.specs.declared.name.Name.{Name}
use Rattle.names.specs.declared.refusal.Refusal.{Refusal}
use Rattle.keys.specs.Names.{name_alike}
use Rattle.keyed_table.specs.Contents.{Contents, takes}
use Rattle.keyed_table.specs.Model.{lookup, put}
use Rattle.keyed_table.specs.declared.slot.Entry.{Entry}
use Rattle.policies.specs.Sets.{has, Noted, Unnoted, Puts}

-- what is found is what is there
pub lookup_has : (es : List (Entry Name (Unit {0}))) (k : Name) → is_some (lookup name_alike es k) ≡ has es (spelt k)
lookup_has [] k = refl
lookup_has (e ∷ es) k = grind (arith, lookup_has es k)

module _ (k : Name) (v : Unit {0}) where
  put_has : (es : List (Entry Name (Unit {0}))) (n : List ℕ) → has (put name_alike es k v) n ≡ (has es n || bytes_eq (spelt k) n)
  put_has [] n = grind arith
  put_has (e ∷ es) n =
      ⊎_elim
      (λ t. let same : spelt e.key ≡ spelt k = ap spelt ((name_decides e.key k).0 t) in grind arith)
      (λ f. grind (arith, put_has es n))
      (cases_Bool (name_alike e.key k))

  put_few : (es : List (Entry Name (Unit {0}))) → length (put name_alike es k v) ≤ length es + 1
  put_few [] = omega arith
  put_few (e ∷ es) = grind (arith, put_few es)

  -- the name put, or the table full
  pub puts_one : (t u : Contents Name (Unit {0})) (r : Result (Unit {0}) Refusal) → is_ok r ≡ takes name_alike t k → u.entries ≡ cond (is_ok r) (put name_alike t.entries k v) t.entries → IfErr r (λ e. number_of e ≡ 10) → Puts r (spelt k ∷ []) t u
  puts_one t u (Ok x) told is why = record {
    names = λ n. ap (λ es. has es n) is ∙ put_has t.entries n ∙ grind arith;
    few = let p = put_few t.entries in omega (arith, ap length is);
  }
  puts_one t u (Err e) told is why = inr (why, grind (arith, nat_tests, told))

module _ {es fs : List (Entry Name (Unit {0}))} where
  -- what cannot be put after others cannot be put with them
  unnoted_after : (ns ms ks : List (List ℕ)) (slots why : ℕ) → Noted ns es fs → Unnoted ms slots (length fs) why → Unnoted ((ns ++ ms) ++ ks) slots (length es) why
  unnoted_after ns ms ks slots why a (inl h) = inl (h.0, let p = list_any-append (λ x. ltb 105 (length x)) (ns ++ ms) ks in let q = list_any-append (λ x. ltb 105 (length x)) ns ms in let w = h.1 in grind arith)
  unnoted_after ns ms ks slots why a (inr h) = inr (h.0, let few = a.few in let w = h.1 in omega (arith, length-append (ns ++ ms) ks, length-append ns ms))

  -- a turn of a loop that cannot put the names f x of each x
  module _ {X : Type 0} (f : X → List (List ℕ)) (xs : List X) (i : ℕ) (d x : X) (l : i < length xs) (is : x ≡ get_or xs i d) (before : Noted (flat_map f (take i xs)) es fs) where
    so_far : flat_map f (take (i + 1) xs) ≡ flat_map f (take i xs) ++ f x
    so_far = ap (flat_map f) (take_more xs i d l) ∙ sym (flat_map_more f [] (take i xs) (get_or xs i d)) ∙ ap (λ y. flat_map f (take i xs) ++ f y) (sym is)

    pub unnoted_more : (slots why : ℕ) (ns : List (List ℕ)) → flat_map f xs ≡ ns → Unnoted (f x) slots (length fs) why → Unnoted ns slots (length es) why
    unnoted_more slots why ns all now =
        let whole : (flat_map f (take i xs) ++ f x) ++ flat_map f (drop (i + 1) xs) ≡ ns =
        ap (λ ns. ns ++ flat_map f (drop (i + 1) xs)) (sym so_far) ∙ sym (flat_map-append f (take (i + 1) xs) (drop (i + 1) xs)) ∙ ap (flat_map f) (take-append-drop (i + 1) xs) ∙ all in
        subst (λ ms. Unnoted ms slots (length es) why) whole (unnoted_after (flat_map f (take i xs)) (f x) (flat_map f (drop (i + 1) xs)) slots why before now)

-- all turns of a loop that puts the names f x of each x
pub noted_all : {X : Type 0} {es fs : List (Entry Name (Unit {0}))} (f : X → List (List ℕ)) (xs : List X) (i : ℕ) (ns : List (List ℕ)) → length xs ≤ i → flat_map f xs ≡ ns → Noted (flat_map f (take i xs)) es fs → Noted ns es fs
noted_all {es = es} {fs = fs} f xs i ns l all noted = subst (λ ms. Noted ms es fs) (ap (flat_map f) (take_all i xs l) ∙ all) noted
