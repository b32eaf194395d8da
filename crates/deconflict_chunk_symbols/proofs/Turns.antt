-- Calls of one list after those of another, and the turns of a loop over a list of which each element asks for calls. Assumes
-- nothing.
use Rattle.std.proofs.Common.{◌≡◌, ℕ, ◌+◌, ◌<◌, ◌≤◌, List, [], ◌∷◌, ◌++◌, flat_map, map, length, get_or, drop, Ok, Err, Result, sym, refl, ap, subst, ◌∙◌}
use native.Mathlib.Nat.{zero-add}
use Rattle.std.specs.List.{range_with_len}
use Rattle.std.proofs.lemmas.List.{at_drop_more, at_drop_all}
use Rattle.std.proofs.lemmas.List.Folds.{flat_map-map}
use Rattle.std.proofs.lemmas.List.FromFn.{length-range_with_len, get_or-range_with_len}
use Rattle.names.specs.declared.refusal.Refusal.{Refusal}
use Rattle.chunk_tables.specs.Model.{Chunk}
use Rattle.chunk_tables.specs.View.{chunk_of}
use Rattle.keys.specs.declared.refs.SymbolRef.{SymbolRef}
use Rattle.chunk_tables.specs.declared.kind.RootBindingKind.{RootBindingKind}
use Rattle.session_rules.specs.Calls.{Call, root, told}
use Rattle.session_rules.specs.Rules.{Answer, given, already, agreed, declines, answers, root_named}
use Rattle.session_rules.specs.Session.{Session}
use Rattle.renamer.specs.Answers.{told_name, told_end}
use Rattle.renamer.specs.State.{chunk_in, session_of, Stays, Keeps}
use Rattle.renamer.specs.declared.renamer.Renamer.{Renamer}
use Rattle.renamer.specs.declared.renamer.naming.TopLevelName.{TopLevelName}
use Rattle.renamer.specs.declared.renamer.naming.TopLevelName.TheVariants.{Given, Already}
use Rattle.deconflict_chunk_symbols.specs.Performing.{following, then_on, perform_each, Performs, Midway}

pub perform_append : (c : Chunk) (S : Session) (xs ys : List Call) → perform_each c S (xs ++ ys) ≡ then_on (perform_each c S xs) (λ T. perform_each c T ys)
perform_append c S [] ys = refl
perform_append c S (x ∷ xs) ys = on (told c S x).answer (told c S x).after (λ T. perform_append c T xs ys)
  where
    on : (a : Answer) (T : Session) → ((U : Session) → perform_each c U (xs ++ ys) ≡ then_on (perform_each c U xs) (λ V. perform_each c V ys))
        → following a T (λ U. perform_each c U (xs ++ ys)) ≡ then_on (following a T (λ U. perform_each c U xs)) (λ V. perform_each c V ys)
    on (given n p) T ih = ih T
    on (already n) T ih = ih T
    on agreed T ih = ih T
    on (declines why) T ih = refl

pub stays_all : (r : Renamer) → Stays r r
stays_all r = record { tables = refl; policies = refl; records = refl; names = refl; helpers = refl; marks = refl }

pub stays_on : {r s t : Renamer} → Stays r s → Stays s t → Stays r t
stays_on h g = record {
  tables = g.tables ∙ h.tables;
  policies = g.policies ∙ h.policies;
  records = g.records ∙ h.records;
  names = g.names ∙ h.names;
  helpers = g.helpers ∙ h.helpers;
  marks = g.marks ∙ h.marks;
}

pub keeps_all : (r : Renamer) → Keeps r r
keeps_all r = record { stays = stays_all r; helpers = refl }

pub keeps_on : {r s t : Renamer} → Keeps r s → Keeps s t → Keeps r t
keeps_on h g = record { stays = stays_on h.stays g.stays; helpers = g.helpers ∙ h.helpers }

pub same_tables : {r s : Renamer} → Stays r s → chunk_in s ≡ chunk_in r
same_tables h = ap (λ k. chunk_of k.chunk) h.tables

-- the same calls
pub as_seen : {r s : Renamer} {o : Result (Unit {0}) Refusal} {xs : List Call} (ys : List Call) → xs ≡ ys → Performs r s o xs → Performs r s o ys
as_seen {r} {s} {o} ys e h = subst (Performs r s o) e h

-- nothing to perform
pub nothing : (r : Renamer) → Performs r r (Ok tt) []
nothing r = record { rules = refl; keeps = keeps_all r }

-- where the first calls end with a refusal, all do
pub ends : {r s : Renamer} {e : Refusal} {xs : List Call} (ys : List Call) → Performs r s (Err e) xs → Performs r s (Err e) (xs ++ ys)
ends {r = r} {xs = xs} ys h = record {
  rules = ap (λ t. then_on t (λ T. perform_each (chunk_in r) T ys)) h.rules ∙ sym (perform_append (chunk_in r) (session_of r) xs ys);
  keeps = h.keeps;
}

-- else the others follow
pub goes_on : {r s t : Renamer} {o : Result (Unit {0}) Refusal} {xs ys : List Call} → Performs r s (Ok tt) xs → Performs s t o ys → Performs r t o (xs ++ ys)
goes_on {r = r} {s = s} {xs = xs} {ys = ys} h k = record {
  rules =
      k.rules ∙ ap (λ c. perform_each c (session_of s) ys) (same_tables h.keeps.stays)
      ∙ ap (λ t. then_on t (λ T. perform_each (chunk_in r) T ys)) h.rules ∙ sym (perform_append (chunk_in r) (session_of r) xs ys);
  keeps = keeps_on h.keeps k.keeps;
}

-- calls that a later session performs, told of the tables of an earlier one
pub carried : (calls : Chunk → List Call) {r s t : Renamer} {o : Result (Unit {0}) Refusal} → Keeps r s → Performs s t o (calls (chunk_in s)) → Performs s t o (calls (chunk_in r))
carried calls h k = as_seen _ (ap calls (same_tables h.stays)) k

-- calls for the elements of a list that was read from the tables of the earlier one
pub carried_list : {X : Type 0} (calls : Chunk → X → List Call) {x y : X} {r s t : Renamer} {o : Result (Unit {0}) Refusal} → Keeps r s → x ≡ y → Performs s t o (calls (chunk_in s) x)
    → Performs s t o (calls (chunk_in r) y)
carried_list calls {x} {y} {r} h e k = as_seen _ (ap (calls (chunk_in r)) e) (carried (λ c. calls c x) h k)

-- the calls of one section of the tables, and those of the next ones
pub next : (calls more : Chunk → List Call) {r s t : Renamer} {o : Result (Unit {0}) Refusal} → Performs r s (Ok tt) (calls (chunk_in r)) → Performs s t o (more (chunk_in s))
    → Performs r t o (calls (chunk_in r) ++ more (chunk_in r))
next calls more h k = goes_on h (carried more h.keeps k)

-- a naming call that is granted, and one that is refused
pub named : {r s : Renamer} (n : TopLevelName) (q : SymbolRef) (k : RootBindingKind) → told_name (Ok n) (session_of s) ≡ root_named (chunk_in r) (session_of r) q k → Keeps r s
    → Performs r s (Ok tt) (root q k ∷ [])
named {r} {s} n q k e h = record { rules = on n ∙ ap (λ t. then_on t (λ T. answers agreed T)) e; keeps = h }
  where
    on : (m : TopLevelName) → answers agreed (session_of s) ≡ then_on (told_name (Ok m) (session_of s)) (λ T. answers agreed T)
    on (Given f) = refl
    on (Already f) = refl

pub declined : {r s : Renamer} (e : Refusal) (q : SymbolRef) (k : RootBindingKind) → told_name (Err e) (session_of s) ≡ root_named (chunk_in r) (session_of r) q k → Keeps r s
    → Performs r s (Err e) (root q k ∷ [])
declined e q k f h = record { rules = ap (λ t. then_on t (λ T. answers agreed T)) f; keeps = h }

-- ---- a loop over a list

module _ {X : Type 0} (calls : Chunk → X → List Call) (xs : List X) where
  pub at_first : (r : Renamer) → Midway calls xs 0 r r
  at_first r = record { rules = refl; keeps = keeps_all r }

  module _ {r s : Renamer} {i : ℕ} (h : Midway calls xs i r s) where
    abbrev f : X → List Call
    f = calls (chunk_in r)

    -- the calls that are left, where x is the next element
    module _ (x : X) (l : i < length xs) where
      abbrev here : List Call
      here = f (get_or xs i x)

      abbrev more : List Call
      more = flat_map f (drop (i + 1) xs)

      whole : perform_each (chunk_in r) (session_of s) (here ++ more) ≡ perform_each (chunk_in r) (session_of r) (flat_map f xs)
      whole = ap (perform_each (chunk_in r) (session_of s)) (sym (at_drop_more (flat_map f) xs i x l)) ∙ h.rules

      seen : {t : Renamer} {o : Result (Unit {0}) Refusal} → Performs s t o (calls (chunk_in s) (get_or xs i x)) → told_end o (session_of t) ≡ perform_each (chunk_in r) (session_of s) here
      seen k = k.rules ∙ ap (λ c. perform_each c (session_of s) (calls c (get_or xs i x))) (same_tables h.keeps.stays)

      joined : {t : Renamer} {o : Result (Unit {0}) Refusal} → Performs s t o (calls (chunk_in s) (get_or xs i x))
          → then_on (told_end o (session_of t)) (λ T. perform_each (chunk_in r) T more) ≡ perform_each (chunk_in r) (session_of r) (flat_map f xs)
      joined k = ap (λ a. then_on a (λ T. perform_each (chunk_in r) T more)) (seen k) ∙ sym (perform_append (chunk_in r) (session_of s) here more) ∙ whole

      -- the next calls are granted, and refused
      pub turn : {t : Renamer} → Performs s t (Ok tt) (calls (chunk_in s) (get_or xs i x)) → Midway calls xs (i + 1) r t
      turn k = record { rules = joined k; keeps = keeps_on h.keeps k.keeps }

      pub stop : {t : Renamer} {e : Refusal} → Performs s t (Err e) (calls (chunk_in s) (get_or xs i x)) → Performs r t (Err e) (flat_map f xs)
      stop k = record { rules = joined k; keeps = keeps_on h.keeps k.keeps }

    -- none is left
    pub done : length xs ≤ i → Performs r s (Ok tt) (flat_map f xs)
    done l = record { rules = ap (perform_each (chunk_in r) (session_of s)) (sym (at_drop_all (flat_map f) xs i l)) ∙ h.rules; keeps = h.keeps }

-- ---- a loop over a list of which each element is viewed by v

module _ {X Y : Type 0} (v : X → Y) (calls : Chunk → Y → List Call) (xs : List X) {r s : Renamer} {i : ℕ} (h : Midway (λ c x. calls c (v x)) xs i r s) where
  module _ (x : X) (l : i < length xs) (is : x ≡ get_or xs i x) where
    in_place : {t : Renamer} {o : Result (Unit {0}) Refusal} → Performs s t o (calls (chunk_in s) (v x)) → Performs s t o (calls (chunk_in s) (v (get_or xs i x)))
    in_place k = as_seen _ (ap (λ y. calls (chunk_in s) (v y)) is) k

    pub turn_viewed : {t : Renamer} → Performs s t (Ok tt) (calls (chunk_in s) (v x)) → Midway (λ c y. calls c (v y)) xs (i + 1) r t
    turn_viewed k = turn (λ c y. calls c (v y)) xs h x l (in_place k)

    pub stop_viewed : {t : Renamer} {e : Refusal} → Performs s t (Err e) (calls (chunk_in s) (v x)) → Performs r t (Err e) (flat_map (calls (chunk_in r)) (map v xs))
    stop_viewed k = as_seen _ (sym (flat_map-map (calls (chunk_in r)) v xs)) (stop (λ c y. calls c (v y)) xs h x l (in_place k))

  pub done_viewed : length xs ≤ i → Performs r s (Ok tt) (flat_map (calls (chunk_in r)) (map v xs))
  done_viewed l = as_seen _ (sym (flat_map-map (calls (chunk_in r)) v xs)) (done (λ c y. calls c (v y)) xs h l)

-- ---- a loop over the numbers below n

module _ (n i : ℕ) where
  pub in_range : i < n → i < length (range_with_len 0 n)
  in_range l = subst (λ k. i < k) (sym (length-range_with_len 0 n)) l

  pub past_range : n ≤ i → length (range_with_len 0 n) ≤ i
  past_range l = subst (λ k. k ≤ i) (sym (length-range_with_len 0 n)) l

  pub of_number : (calls : Chunk → ℕ → List Call) → i < n → {s t : Renamer} {o : Result (Unit {0}) Refusal} → Performs s t o (calls (chunk_in s) i)
      → Performs s t o (calls (chunk_in s) (get_or (range_with_len 0 n) i 0))
  of_number calls l {s} h = as_seen (calls (chunk_in s) (get_or (range_with_len 0 n) i 0)) (ap (calls (chunk_in s)) (sym (get_or-range_with_len 0 n i 0 l ∙ zero-add i))) h
