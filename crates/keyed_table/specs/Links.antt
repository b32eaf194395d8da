-- How the slots of a table hold its entries, and how they are linked. Assumes nothing.
use Rattle.std.specs.Prelude.{◌≡◌, ℕ, zero, suc, ◌%◌, ◌<◌, ◌≤◌, true, cond, List, map, length, get_or, take, is_some, Some, None, Option, ◌==◌, slice_index, slice_index_or}
use Rattle.std.specs.Option.{option_to_list}
use Rattle.std.specs.List.{flat_map}
use Rattle.keyed_table.specs.Model.{Distinct}
use Rattle.keyed_table.specs.declared.slot.Entry.{Entry}
use Rattle.keyed_table.specs.declared.slot.Slot.{Slot}

-- a slot with no entry
abbrev pub blank : {K V : Type 0} → Slot K V
blank = record { hash = 0; entry = None; head = None; next = None }

-- memory in which no slot holds or links anything
abbrev pub AllBlank : {K V : Type 0} → List (Slot K V) → Type 0
AllBlank {K} {V} slots = (k : ℕ) (d : Slot K V) → k < length slots → slice_index_or slots k d ≡ blank

-- what the first n slots hold
abbrev pub held : {K V : Type 0} → List (Slot K V) → ℕ → List (Entry K V)
held slots n = flat_map (λ s. option_to_list s.entry) (take n slots)

-- the largest i below n with home b, if there is one
abbrev pub latest : List ℕ → ℕ → ℕ → Option ℕ
latest homes b zero = None
latest homes b (suc n) = cond (slice_index homes n == b) (Some n) (latest homes b n)

-- the bucket of each entry, of cap buckets
abbrev pub homes : {K V : Type 0} → (K → ℕ) → ℕ → List (Entry K V) → List ℕ
homes hashed cap es = map (λ e. hashed e.key % cap) es

-- the first len slots are full
abbrev pub Full : {K V : Type 0} → List (Slot K V) → ℕ → Type 0
Full {K} {V} slots len = (i : ℕ) (d : Slot K V) → i < len → is_some (get_or slots i d).entry ≡ true

-- each slot's head is the newest of its bucket
abbrev pub Heads : {K V : Type 0} → List (Slot K V) → ℕ → List ℕ → Type 0
Heads {K} {V} slots len hs = (b : ℕ) (d : Slot K V) → b < length slots → (get_or slots b d).head ≡ latest hs b len

-- each full slot's next is the newest older one of its bucket
abbrev pub Nexts : {K V : Type 0} → List (Slot K V) → ℕ → List ℕ → Type 0
Nexts {K} {V} slots len hs = (i : ℕ) (d : Slot K V) → i < len → (get_or slots i d).next ≡ latest hs (slice_index hs i) i

-- each full slot has the hash of its entry's key
abbrev pub Hashes : {K V : Type 0} → (K → ℕ) → List (Slot K V) → ℕ → List (Entry K V) → Type 0
Hashes {K} {V} hashed slots len es = (i : ℕ) (d : Slot K V) (e : Entry K V) → i < len → (get_or slots i d).hash ≡ hashed (get_or es i e).key

-- what the slots of a table keep
pub record Wired {K V : Type 0} (hashed : K → ℕ) (slots : List (Slot K V)) (len : ℕ) : Type 0 where
  pub within : len ≤ length slots
  pub full : Full slots len
  pub hashes : Hashes hashed slots len (held slots len)
  pub heads : Heads slots len (homes hashed (length slots) (held slots len))
  pub nexts : Nexts slots len (homes hashed (length slots) (held slots len))
  pub distinct : Distinct (held slots len)
