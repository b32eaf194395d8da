-- The records as a table of names holds them. Assumes nothing.
use Rattle.std.proofs.Common.{◌≡◌, ℕ, zero, suc, ◌+◌, ◌<◌, ◌≤◌, Bool, true, false, cond, ◌||◌, ltb, ◌⊎◌, List, [], ◌∷◌, map, length, get_or, is_some, Some, None, sym, refl, ap, ◌∙◌, subst, inl, inr, arith}
use mathlib.Core.Logic.{∥∥₁_map}
use Rattle.std.specs.Str.{bytes_eq}
use Rattle.std.proofs.lemmas.Slice.Eq.{bytes_eq-Decides}
use Rattle.std.proofs.lemmas.List.{length-map}
use Rattle.std.proofs.lemmas.Bool.{cases_Bool, both_ways, cond-true}
use Rattle.names.specs.Spelt.{spelt}
use Rattle.names.specs.declared.name.Name.{Name}
use Rattle.keyed_table.specs.Model.{lookup, put}
use Rattle.keys.specs.Names.{name_alike}
use Rattle.keyed_table.specs.Contents.{Contents, room, takes}
use Rattle.keyed_table.specs.declared.slot.Entry.{Entry}
use Rattle.keyed_table.proofs.Listings.{Apart as Apart_by}
use Rattle.conflict_resolver.specs.Rows.{row_of, name_of, record_in, Once}
use Rattle.conflict_resolver.specs.declared.resolver.NameRecord.{NameRecord}
use Rattle.conflict_resolver.proofs.Lookups.{same_true, same_false}
use Rattle.conflict_resolver.specs.Records.{counter_of, raised, recording, has_free, Apart}

-- the value under a name is its counter
pub lookup_counter : (es : List (Entry Name ℕ)) (k : Name) → lookup name_alike es k ≡ counter_of (map record_in es) (spelt k)
unfolding counter_of
lookup_counter [] k = refl
lookup_counter (e ∷ es) k = ap (cond (bytes_eq (spelt e.key) (spelt k)) (Some e.value)) (lookup_counter es k)

-- a value one higher is a raised counter
pub put_raised : (es : List (Entry Name ℕ)) (k : Name) (n : ℕ) → counter_of (map record_in es) (spelt k) ≡ Some n → map record_in (put name_alike es k (n + 1)) ≡ raised (map record_in es) (spelt k)
unfolding counter_of raised
put_raised [] k n h = cc
put_raised (e ∷ es) k n h = on (cases_Bool (bytes_eq (spelt e.key) (spelt k))) (put_raised es k n)
  where
    on : (bytes_eq (spelt e.key) (spelt k) ≡ true) ⊎ (bytes_eq (spelt e.key) (spelt k) ≡ false) → (counter_of (map record_in es) (spelt k) ≡ Some n → map record_in (put name_alike es k (n + 1)) ≡ raised (map record_in es) (spelt k)) → map record_in (put name_alike (e ∷ es) k (n + 1)) ≡ raised (map record_in (e ∷ es)) (spelt k)
    on (inl t) ih =
        let i : Some e.value ≡ Some n = rw t at h in
        let j : e.value ≡ n = cc in
        let s : spelt e.key ≡ spelt k = (bytes_eq-Decides (spelt e.key) (spelt k)).0 t in
        simp t (cc)
    on (inr f) ih = let i : counter_of (map record_in es) (spelt k) ≡ Some n = rw f at h in simp (f, ih i)

-- a name that is not there is recorded
pub put_recorded : (es : List (Entry Name ℕ)) (k : Name) → counter_of (map record_in es) (spelt k) ≡ None → map record_in (put name_alike es k 0) ≡ recording (map record_in es) (spelt k)
unfolding counter_of
put_recorded [] k h = refl
put_recorded (e ∷ es) k h = on (cases_Bool (bytes_eq (spelt e.key) (spelt k))) (put_recorded es k)
  where
    on : (bytes_eq (spelt e.key) (spelt k) ≡ true) ⊎ (bytes_eq (spelt e.key) (spelt k) ≡ false) → (counter_of (map record_in es) (spelt k) ≡ None → map record_in (put name_alike es k 0) ≡ recording (map record_in es) (spelt k)) → map record_in (put name_alike (e ∷ es) k 0) ≡ recording (map record_in (e ∷ es)) (spelt k)
    on (inl t) ih = let i : Some e.value ≡ None = rw t at h in cc
    on (inr f) ih = let i : counter_of (map record_in es) (spelt k) ≡ None = rw f at h in simp (f, ih i)

-- a name that is stored says nothing of another, and no name comes on record twice
put_other : (es : List (Entry Name ℕ)) (k : Name) (v : ℕ) (d : List ℕ) → (spelt k ≡ d → ⊥) → counter_of (map record_in (put name_alike es k v)) d ≡ counter_of (map record_in es) d
unfolding counter_of
put_other [] k v d ne = simp (same_false (spelt k) d ne)
put_other (e ∷ es) k v d ne = on (cases_Bool (bytes_eq (spelt e.key) (spelt k))) (put_other es k v d ne)
  where
    on : (bytes_eq (spelt e.key) (spelt k) ≡ true) ⊎ (bytes_eq (spelt e.key) (spelt k) ≡ false) → counter_of (map record_in (put name_alike es k v)) d ≡ counter_of (map record_in es) d → counter_of (map record_in (put name_alike (e ∷ es) k v)) d ≡ counter_of (map record_in (e ∷ es)) d
    on (inl t) ih =
        let s : spelt e.key ≡ spelt k = (bytes_eq-Decides (spelt e.key) (spelt k)).0 t in
        let f : bytes_eq (spelt k) d ≡ false = same_false (spelt k) d ne in
        let g : bytes_eq (spelt e.key) d ≡ false = same_false (spelt e.key) d (λ h. ne (sym s ∙ h)) in
        simp (t, f, g)
    on (inr f) ih = simp (f, ih)

pub put_once : (es : List (Entry Name ℕ)) (k : Name) (v : ℕ) → Once es → Once (put name_alike es k v)
unfolding Apart counter_of
put_once [] k v a = (refl, tt)
put_once (e ∷ es) k v a = on (cases_Bool (bytes_eq (spelt e.key) (spelt k))) (put_once es k v a.1)
  where
    on : (bytes_eq (spelt e.key) (spelt k) ≡ true) ⊎ (bytes_eq (spelt e.key) (spelt k) ≡ false) → Once (put name_alike es k v) → Once (put name_alike (e ∷ es) k v)
    on (inl t) ih =
        let s : spelt e.key ≡ spelt k = (bytes_eq-Decides (spelt e.key) (spelt k)).0 t in
        let n : counter_of (map record_in es) (spelt k) ≡ None = ap (counter_of (map record_in es)) (sym s) ∙ a.0 in
        simp t (n, a.1)
    on (inr f) ih = simp f (put_other es k v (spelt e.key) (λ h. both_ways (bytes_eq (spelt e.key) (spelt k)) f (same_true (spelt e.key) (spelt k) (sym h))) ∙ a.0, ih)

pub once_none : (es : List (Entry Name ℕ)) → es ≡ [] → Once es
unfolding Apart
once_none es e = subst Once (sym e) tt

pub length_held : (t : Contents Name ℕ) → length (map record_in t.entries) ≡ length t.entries
length_held t = length-map t.entries record_in

-- room for more than is asked for
wider : (b : Bool) (l m r : ℕ) → (b || ltb l m) ≡ true → m ≤ r → (b || ltb l r) ≡ true
wider true l m r h w = refl
wider false l m r h w = grind (arith)

-- an entry more where the name has none yet
length_put : (es : List (Entry Name ℕ)) (k : Name) (v : ℕ) → length (put name_alike es k v) ≡ cond (is_some (lookup name_alike es k)) (length es) (length es + 1)
length_put [] k v = refl
length_put (e ∷ es) k v = on (name_alike e.key k) (length_put es k v)
  where
    on : (b : Bool) → length (put name_alike es k v) ≡ cond (is_some (lookup name_alike es k)) (length es) (length es + 1)
        → length (cond b (record { key = k; value = v } ∷ es) (e ∷ put name_alike es k v)) ≡ cond (is_some (cond b (Some e.value) (lookup name_alike es k))) (length (e ∷ es)) (length (e ∷ es) + 1)
    on true ih = refl
    on false ih = next (is_some (lookup name_alike es k)) ih
      where
        next : (b : Bool) → length (put name_alike es k v) ≡ cond b (length es) (length es + 1) → suc (length (put name_alike es k v)) ≡ cond b (suc (length es)) (suc (length es) + 1)
        next true h = omega (arith, h)
        next false h = omega (arith, h)

-- what a table holds after the counter of a name was stored, where its record is there or one is free
module _ (t : Contents Name ℕ) (most : ℕ) (fits : most ≤ room t) (k : Name) (v : ℕ) (ok : Bool) (es : List (Entry Name ℕ)) (space : (is_some (counter_of (map record_in t.entries) (spelt k)) || has_free most (map record_in t.entries)) ≡ true) (e : ok ≡ takes name_alike t k) (f : es ≡ cond ok (put name_alike t.entries k v) t.entries) where
  free : (is_some (lookup name_alike t.entries k) || ltb (length t.entries) most) ≡ true
  free =
      ap (λ o. is_some o || ltb (length t.entries) most) (lookup_counter t.entries k)
      ∙ ap (λ n. is_some (counter_of (map record_in t.entries) (spelt k)) || ltb n most) (sym (length_held t)) ∙ space

  granted : takes name_alike t k ≡ true
  granted = wider (is_some (lookup name_alike t.entries k)) (length t.entries) most (room t) free fits

  pub rows_put : es ≡ put name_alike t.entries k v
  rows_put = f ∙ cond-true ok _ _ (e ∙ granted)

  pub once_put : ∥ Once t.entries ∥₁ → ∥ Once es ∥₁
  once_put o = ∥∥₁_map o (λ a. subst Once (sym rows_put) (put_once t.entries k v a))

  pub within_put : length t.entries ≤ most → length es ≤ most
  within_put w = on (is_some (lookup name_alike t.entries k)) free (ap length rows_put ∙ length_put t.entries k v)
    where
      on : (b : Bool) → (b || ltb (length t.entries) most) ≡ true → length es ≡ cond b (length t.entries) (length t.entries + 1) → length es ≤ most
      on true h n = omega (arith, n, w)
      on false h n = grind (arith)

-- a name that is not on record stands in no row
in_no_row : (es : List (Entry Name ℕ)) (n : List ℕ) → counter_of (map record_in es) n ≡ None → (j : ℕ) (d : NameRecord) → j < length (map row_of es) → spelt (get_or (map row_of es) j d).name ≡ n → ⊥
unfolding counter_of
in_no_row [] n h j d l e = absurd (omega arith)
in_no_row (x ∷ es) n h j d l e = on (cases_Bool (bytes_eq (spelt x.key) n)) (λ i k. in_no_row es n i k d) j l e
  where
    on : (bytes_eq (spelt x.key) n ≡ true) ⊎ (bytes_eq (spelt x.key) n ≡ false)
        → (counter_of (map record_in es) n ≡ None → (k : ℕ) → k < length (map row_of es) → spelt (get_or (map row_of es) k d).name ≡ n → ⊥)
        → (k : ℕ) → k < length (map row_of (x ∷ es)) → spelt (get_or (map row_of (x ∷ es)) k d).name ≡ n → ⊥
    on (inl t) ih k m f = let i : Some x.value ≡ None = rw t at h in absurd (cc)
    on (inr t) ih zero m f = both_ways (bytes_eq (spelt x.key) n) t (same_true (spelt x.key) n f)
    on (inr t) ih (suc k) m f = let i : counter_of (map record_in es) n ≡ None = rw t at h in ih i k (omega arith) f

-- no two rows have one name
pub rows_apart : (es : List (Entry Name ℕ)) → Once es → Apart_by name_of (map row_of es)
unfolding Apart
rows_apart [] o i j d l m e = absurd (omega arith)
rows_apart (x ∷ es) o zero zero d l m e = refl
rows_apart (x ∷ es) o zero (suc j) d l m e = absurd (in_no_row es (spelt x.key) o.0 j d (omega arith) (ap spelt (sym e)))
rows_apart (x ∷ es) o (suc i) zero d l m e = absurd (in_no_row es (spelt x.key) o.0 i d (omega arith) (ap spelt e))
rows_apart (x ∷ es) o (suc i) (suc j) d l m e = ap suc (rows_apart es o.1 i j d (omega arith) (omega arith) e)
