-- The search for a free name, one clause a rule. `vetoes c bare` tells whether the policy vetoes the candidate c.
-- Assumes nothing.
use Rattle.std.specs.Prelude.{ℕ, zero, suc, ◌+◌, Bool, true, false, List, Some, None, Option, nat_lt}
use Rattle.names.specs.Bases.{is_base}
use Rattle.names.specs.Forms.{form}
use Rattle.conflict_resolver.specs.Records.{Record, counter_of, raised, recording, has_free}

-- what a look at a candidate finds: it is on record with a counter, or unrecorded and vetoed, or free
pub data Sight : Type 0 where
  recorded : ℕ → Sight
  vetoed : Sight
  free : Sight

abbrev pub sight : Option ℕ → Bool → Sight
sight (Some n) v = recorded n
sight None true = vetoed
sight None false = free

-- how a search ends, with the records that it leaves: the name found and the number of probes, or a refusal's number
pub data Outcome : Type 0 where
  granted : List Record → List ℕ → ℕ → Outcome
  refused : List Record → ℕ → Outcome

-- where a search stands: about to probe the form of number k, after p probes; or at its end
pub data State : Type 0 where
  next : List Record → ℕ → ℕ → State
  done : Outcome → State

-- no number passes 9,999: the search goes on at n + 1 with the records fs, or ends with the records es
abbrev pub onward : Bool → List Record → List Record → ℕ → ℕ → State
onward true es fs n p = next fs (n + 1) p
onward false es fs n p = done (refused es 11)

-- what follows a look at the candidate c of number k, after p probes (the base itself has number 0)
unfoldable pub follow : List Record → List ℕ → ℕ → ℕ → Sight → State
-- on record: its counter is raised, and is the next number
follow es c k p (recorded n) = onward (nat_lt n 9999) es (raised es c) n p
-- unrecorded and vetoed: it stays unrecorded, and the next number is one more
follow es c k p vetoed = onward (nat_lt k 9999) es es k p
-- free: it is recorded with 0, and is the answer
follow es c k p free = done (granted (recording es c) c p)

module _ (vetoes : List ℕ → Bool → Bool) (b : List ℕ) where
  -- the first look is at the base itself
  abbrev pub opening : List Record → State
  opening es = follow es b 0 0 (sight (counter_of es b) (vetoes b true))

  -- a probe is a look at a numbered form
  abbrev pub probed : List Record → ℕ → ℕ → State
  probed es k p = follow es (form b k) k (p + 1) (sight (counter_of es (form b k)) (vetoes (form b k) false))

  -- at most n probes more
  unfoldable pub run : ℕ → State → Outcome
  run zero (next es k p) = refused es 12
  run zero (done o) = o
  run (suc n) (next es k p) = run n (probed es k p)
  run (suc n) (done o) = o

  -- the whole search, where the memory has `slots` records in all
  unfoldable pub searched : ℕ → List Record → Outcome
  searched slots es = elim (is_base b) [
    | true ↦ elim (has_free slots es) [ true ↦ run 4096 (opening es) | false ↦ refused es 10 ]
    | false ↦ refused es 7
  ]

-- how a reservation ends, with the records that it leaves, or with a refusal's number
pub data Reservation : Type 0 where
  made : List Record → Reservation
  declined : List Record → ℕ → Reservation

-- a name is recorded with 0, unless it is on record; it has 1 to 100 bytes, and a new record must be free
unfoldable pub reserved : ℕ → List Record → List ℕ → Reservation
reserved slots es c = elim (is_base c) [
  | true ↦ elim (counter_of es c) [
    | Some n ↦ made es
    | None ↦ elim (has_free slots es) [ true ↦ made (recording es c) | false ↦ declined es 10 ]
  ]
  | false ↦ declined es 7
]
