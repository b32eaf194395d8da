-- Each reserved name of a sound chunk is a base. Assumes nothing.
use Rattle.std.proofs.Common.{◌≡◌, ℕ, suc, Bool, true, false, cond, List, [], ◌∷◌, ◌++◌, map, Some, None, Option, sym, refl, ap, ◌∙◌, ⊎_elim, arith}
use Rattle.std.specs.List.{list_all, flat_map, slice_get}
use Rattle.std.specs.Str.{bytes_eq}
use Rattle.std.proofs.lemmas.Bool.{both_ways, and_from, and_parts, or_cases}
use Rattle.std.proofs.lemmas.List.Folds.{list_all-append, list_all-map}
use Rattle.std.proofs.lemmas.Slice.Eq.{bytes_eq-Decides}
use Rattle.names.specs.Bases.{is_base}
use Rattle.chunk_tables.specs.declared.format.Format.{Format}
use Rattle.chunk_tables.specs.Fixed.{fixed_names, wrapper_parameters}
use Rattle.chunk_tables.specs.Lists.{maybe}
use Rattle.chunk_tables.specs.Model.{Module, Chunk}
use Rattle.chunk_faults.specs.Sound.{Fit, Sound, SoundModule}
use Rattle.reservations.specs.Reserved.{always_printed, printed_by, reserved_in, reserved_by_member, reserved_by_members, reserved_names, among}

-- lists of bases, as a test
abbrev bases : List (List ℕ) → Bool
bases ns = list_all is_base ns

appended : (xs ys : List (List ℕ)) → bases xs ≡ true → bases ys ≡ true → bases (xs ++ ys) ≡ true
appended xs ys h g = list_all-append is_base xs ys ∙ and_from _ _ h g

joined : {X : Type 0} (f : X → List (List ℕ)) (xs : List X) → ((x : X) → bases (f x) ≡ true) → bases (flat_map f xs) ≡ true
joined f [] h = refl
joined f (x ∷ xs) h = appended (f x) (flat_map f xs) (h x) (joined f xs h)

each : {X : Type 0} (p : X → Bool) (xs : List X) → ((k : ℕ) (x : X) → slice_get xs k ≡ Some x → p x ≡ true) → list_all p xs ≡ true
each p [] h = refl
each p (x ∷ xs) h = and_from _ _ (h 0 x refl) (each p xs (λ k. h (suc k)))

fit_base : (n : List ℕ) → Fit n → is_base n ≡ true
fit_base n h = grind arith

fixed_bases : (f : Format) (M : Module) → bases (fixed_names f M) ≡ true
fixed_bases f M = grind (arith, list_all-append)

parameter_bases : (M : Module) → bases (cond M.wrapped (wrapper_parameters M) []) ≡ true
parameter_bases M = grind arith

printed_bases : (f : Format) → bases (printed_by f) ≡ true
printed_bases f = grind arith

-- the names that a sound module keeps
kept_bases : (f : Format) (c : Chunk) (M : Module) → SoundModule c M → bases (reserved_in f M) ≡ true
kept_bases f c M s =
    let unresolved = list_all-map is_base (λ u. u.name) M.unresolved ∙ each (λ u. is_base u.name) M.unresolved (λ k u h. fit_base u.name (s.unresolved k u h).name) in
    appended (map (λ u. u.name) M.unresolved) (fixed_names f M ++ cond M.wrapped (wrapper_parameters M) []) unresolved
    (appended (fixed_names f M) (cond M.wrapped (wrapper_parameters M) []) (fixed_bases f M) (parameter_bases M))

-- the names that the module with a number keeps, if there is one
member_bases : (f : Format) (c : Chunk) → Sound c → (m : ℕ) → bases (reserved_by_member f c m) ≡ true
member_bases f c s m = on (slice_get c.modules m) refl
  where
    on : (o : Option Module) → slice_get c.modules m ≡ o → bases (maybe o [] (reserved_in f)) ≡ true
    on None e = refl
    on (Some M) e = kept_bases f c M (s.modules m M e)

named_base : (ns : List (List ℕ)) → bases ns ≡ true → (n : List ℕ) → among ns n ≡ true → is_base n ≡ true
named_base [] h n is = absurd (both_ways false refl is)
named_base (x ∷ ns) h n is =
    let p = and_parts _ _ h in
    ⊎_elim (λ s. ap is_base (sym ((bytes_eq-Decides x n).0 s)) ∙ p.0) (λ t. named_base ns p.1 n t) (or_cases (bytes_eq x n) (among ns n) is)

pub bases_of_sound : (f : Format) (c : Chunk) → Sound c → (n : List ℕ) → among (reserved_names f c) n ≡ true → is_base n ≡ true
bases_of_sound f c s n is =
    let globals = each is_base c.globals (λ k g h. fit_base g (s.lists.globals k g h)) in
    let members = joined (reserved_by_member f c) c.members (member_bases f c s) in
    let rest = appended (printed_by f) (reserved_by_members f c) (printed_bases f) members in
    named_base (reserved_names f c) (appended c.globals (always_printed ++ (printed_by f ++ reserved_by_members f c)) globals rest) n is
