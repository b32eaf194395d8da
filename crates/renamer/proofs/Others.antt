-- The helpers of other chunks as a table holds them: one for each at most, so that a table with a place for each is never
-- full. Assumes nothing.
use Rattle.std.proofs.Common.{◌≡◌, ℕ, zero, suc, ◌+◌, ◌<◌, ◌≤◌, Bool, true, false, cond, ◌||◌, eqb, ltb, List, [], ◌∷◌, ◌++◌, map, length, get_or, is_some, is_ok, Some, None, Option, Result, Decides, refl, sym, ap, ◌∙◌, subst, rules, arith}
use Rattle.std.specs.List.{All, list_any, slice_get}
use Rattle.std.specs.Option.{option_map}
use Rattle.std.proofs.lemmas.Bool.{cases_Bool, false≢true, eq-eqb, eqb-true, lt-ltb, or_left, or_right}
use Rattle.std.proofs.lemmas.List.{length_push, map_push}
use Rattle.std.proofs.lemmas.List.Elements.{All-push}
use Rattle.std.proofs.lemmas.Option.{none-some, same_Some}
use Rattle.names.specs.Spelt.{spelt}
use Rattle.names.specs.declared.name.Name.{Name}
use Rattle.keys.specs.declared.refs.ChunkIdx.{ChunkIdx}
use Rattle.keyed_table.specs.Contents.{Contents, room, takes}
use Rattle.keyed_table.specs.Model.{lookup, put, Absent, Distinct}
use Rattle.keyed_table.specs.declared.slot.Entry.{Entry}
use Rattle.keyed_table.proofs.Lookups.{absent, put_none, distinct_push}
use Rattle.chunk_tables.specs.Model.{OtherChunk, Chunk}
use Rattle.given_names.proofs.Bounded.{at_most}
use Rattle.session_rules.specs.Helpers.{Helper, helper_of}
use Rattle.renamer.specs.Helpers.{helper_in, helpers_in, is_other, OfOthers}

-- equal numbers are an equal chunk
abbrev pub same_chunk : ChunkIdx → ChunkIdx → Bool
same_chunk a b = eqb a.0 b.0

chunks_tell : (a b : ChunkIdx) → Decides (same_chunk a b) (a ≡ b)
chunks_tell = search rules

-- the name under a chunk spells that of its helper
pub found_helper : (es : List (Entry ChunkIdx Name)) (k : ChunkIdx) → option_map spelt (lookup same_chunk es k) ≡ helper_of (helpers_in es) k.0
found_helper [] k = refl
found_helper (e ∷ es) k = on (same_chunk e.key k) (found_helper es k)
  where
    on : (b : Bool) → option_map spelt (lookup same_chunk es k) ≡ helper_of (helpers_in es) k.0
        → option_map spelt (cond b (Some e.value) (lookup same_chunk es k)) ≡ cond b (Some (spelt e.value)) (helper_of (helpers_in es) k.0)
    on true ih = refl
    on false ih = ih

-- no helper, no entry
pub no_entry : (es : List (Entry ChunkIdx Name)) (k : ChunkIdx) → helper_of (helpers_in es) k.0 ≡ None → lookup same_chunk es k ≡ None
no_entry es k none = on (lookup same_chunk es k) (found_helper es k ∙ none)
  where
    on : (o : Option Name) → option_map spelt o ≡ None → o ≡ None
    on None e = refl
    on (Some n) e = absurd (none-some (spelt n) (sym e))

-- the first place of the chunk with a number
abbrev place_in : List OtherChunk → ℕ → ℕ
place_in [] n = 0
place_in (o ∷ os) n = cond (eqb o.number n) 0 (suc (place_in os n))

abbrev there : List OtherChunk → ℕ → Bool
there os n = list_any (λ o. eqb o.number n) os

place_within : (os : List OtherChunk) (n : ℕ) → there os n ≡ true → place_in os n < length os
place_within [] n h = absurd (false≢true h)
place_within (o ∷ os) n h = on (eqb o.number n) h (place_within os n)
  where
    on : (b : Bool) → (b || there os n) ≡ true → (there os n ≡ true → place_in os n < length os) → cond b 0 (suc (place_in os n)) < suc (length os)
    on true t ih = omega arith
    on false t ih = let l = ih t in omega arith

-- two chunks have two places
place_tells : (os : List OtherChunk) (m n : ℕ) → there os m ≡ true → there os n ≡ true → place_in os m ≡ place_in os n → m ≡ n
place_tells [] m n h k e = absurd (false≢true h)
place_tells (o ∷ os) m n h k e = on (eqb o.number m) (eqb o.number n) refl refl h k e (place_tells os m n)
  where
    on : (a b : Bool) → eqb o.number m ≡ a → eqb o.number n ≡ b → (a || there os m) ≡ true → (b || there os n) ≡ true
        → cond a 0 (suc (place_in os m)) ≡ cond b 0 (suc (place_in os n)) → (there os m ≡ true → there os n ≡ true → place_in os m ≡ place_in os n → m ≡ n) → m ≡ n
    on true true a b t u f ih = sym (eqb-true o.number m a) ∙ eqb-true o.number n b
    on true false a b t u f ih = absurd (omega arith)
    on false true a b t u f ih = absurd (omega arith)
    on false false a b t u f ih = ih t u (omega arith)

-- the chunk at a place of the list is one of the others
pub at_place : (os : List OtherChunk) (k : ℕ) (o : OtherChunk) → slice_get os k ≡ Some o → there os o.number ≡ true
at_place [] k o e = absurd (none-some o e)
at_place (x ∷ os) zero o e = or_left _ _ (eq-eqb x.number o.number (ap (λ v. v.number) (same_Some x o e)))
at_place (x ∷ os) (suc k) o e = or_right _ _ (at_place os k o e)

-- a helper that is put under a chunk for which there is none
module _ (c : Chunk) (t : Contents ChunkIdx Name) (k : ChunkIdx) (n : Name) (others : OfOthers c t.entries) (once : Distinct t.entries) (other : is_other c k.0 ≡ true) (none : lookup same_chunk t.entries k ≡ None) where
  abbrev entry : Entry ChunkIdx Name
  entry = record { key = k; value = n }

  nowhere : Absent same_chunk t.entries k
  nowhere = absent same_chunk t.entries k none

  behind : put same_chunk t.entries k n ≡ t.entries ++ entry ∷ []
  behind = put_none same_chunk t.entries k n nowhere

  others_more : OfOthers c (t.entries ++ entry ∷ [])
  others_more = All-push (λ (e : Entry ChunkIdx Name). is_other c e.key.0 ≡ true) t.entries entry others other

  once_more : Distinct (t.entries ++ entry ∷ [])
  once_more = distinct_push same_chunk chunks_tell t.entries k once entry refl nowhere

  same_key : (a b : ChunkIdx) → a.0 ≡ b.0 → a ≡ b
  same_key a b e = λ i. record { 0 = e i }

  few : length (t.entries ++ entry ∷ []) ≤ length c.others
  few =
      at_most (λ (e : Entry ChunkIdx Name). place_in c.others e.key.0) (t.entries ++ entry ∷ []) (length c.others)
      (λ i d l. place_within c.others _ (others_more i d l))
      (λ i j d h l e. once_more (record {
        i = i;
        j = j;
        d = d;
        less = h;
        within = l;
        key = same_key (get_or (t.entries ++ entry ∷ []) i d).key (get_or (t.entries ++ entry ∷ []) j d).key (place_tells c.others _ _ (others_more i d (omega arith)) (others_more j d l) e);
      }))

  -- a table with a place for each other chunk takes it
  pub takes_helper : length c.others ≤ room t → takes same_chunk t k ≡ true
  takes_helper space = or_right _ _ (lt-ltb (length t.entries) (room t) (let l = length_push t.entries entry in let f = few in omega arith))

  module _ (ok : Bool) (es : List (Entry ChunkIdx Name)) (is : es ≡ cond ok (put same_chunk t.entries k n) t.entries) where
    pub still_others : OfOthers c es
    still_others = on ok is
      where
        on : (b : Bool) → es ≡ cond b (put same_chunk t.entries k n) t.entries → OfOthers c es
        on true e = subst (OfOthers c) (sym (e ∙ behind)) others_more
        on false e = subst (OfOthers c) (sym e) others

    pub still_once : Distinct es
    still_once = on ok is
      where
        on : (b : Bool) → es ≡ cond b (put same_chunk t.entries k n) t.entries → Distinct es
        on true e = subst (λ (xs : List (Entry ChunkIdx Name)). Distinct xs) (sym (e ∙ behind)) once_more
        on false e = subst (λ (xs : List (Entry ChunkIdx Name)). Distinct xs) (sym e) once

    pub one_more : ok ≡ true → helpers_in es ≡ helpers_in t.entries ++ record { chunk = k.0; name = spelt n } ∷ []
    one_more put_there = ap helpers_in (is ∙ ap (λ b. cond b (put same_chunk t.entries k n) t.entries) put_there ∙ behind) ∙ map_push helper_in t.entries entry
