-- What a table stands for: a list of entries, in the order in which the keys came. Assumes nothing.
use Rattle.std.specs.Prelude.{◌≡◌, ℕ, ◌<◌, Bool, true, false, cond, List, [], ◌∷◌, length, get_or, Some, None, Option, slice_index_or}
use Rattle.keyed_table.specs.declared.slot.Entry.{Entry}

module _ {K V : Type 0} (alike : K → K → Bool) where
  -- what the first entry of the key says; in a table it is the only one
  abbrev pub lookup : List (Entry K V) → K → Option V
  lookup [] k = None
  lookup (e ∷ es) k = cond (alike e.key k) (Some e.value) (lookup es k)

  -- the value of the key replaced where the key stands, or an entry more at the end
  abbrev pub put : List (Entry K V) → K → V → List (Entry K V)
  put [] k v = record { key = k; value = v } ∷ []
  put (e ∷ es) k v = cond (alike e.key k) (record { key = k; value = v } ∷ es) (e ∷ put es k v)

-- i is the last place that has the key
pub record Last {K V : Type 0} (alike : K → K → Bool) (es : List (Entry K V)) (k : K) (i : ℕ) : Type 0 where
  pub within : i < length es
  pub here : (d : Entry K V) → alike (slice_index_or es i d).key k ≡ true
  pub after : (j : ℕ) (d : Entry K V) → i < j → j < length es → alike (slice_index_or es j d).key k ≡ false

-- no place has the key
abbrev pub Absent : {K V : Type 0} → (K → K → Bool) → List (Entry K V) → K → Type 0
Absent {K} {V} alike es k = (j : ℕ) (d : Entry K V) → j < length es → alike (slice_index_or es j d).key k ≡ false

-- r is the last place that has the key, or None where no place has it
abbrev pub Sought : {K V : Type 0} → (K → K → Bool) → List (Entry K V) → K → Option ℕ → Type 0
Sought alike es k None = Absent alike es k
Sought alike es k (Some i) = Last alike es k i

-- two places with one key
pub record Clash {K V : Type 0} (es : List (Entry K V)) : Type 0 where
  pub i : ℕ
  pub j : ℕ
  pub d : Entry K V
  pub less : i < j
  pub within : j < length es
  pub key : (get_or es i d).key ≡ (get_or es j d).key

-- no key has two places
abbrev pub Distinct : {K V : Type 0} → List (Entry K V) → Type 0
Distinct es = Clash es → ⊥
