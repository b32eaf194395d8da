-- What holds of every search: what a granted name is, what is left on record, and how many probes it may take.
-- Assumes nothing.
use Rattle.std.specs.Prelude.{◌≡◌, ℕ, zero, suc, ◌+◌, ◌*◌, ◌<◌, ◌≤◌, Bool, false, cond, not, ◌&&◌, ◌⊎◌, List, is_some, Some, None, Option, ◌==◌, ◌≢◌}
use Rattle.names.specs.Forms.{form, Suffix}
use Rattle.conflict_resolver.specs.Records.{Record, counter_of, Apart}
use Rattle.conflict_resolver.specs.Rules.{Outcome, granted, refused}

-- a record stays on record, its counter does not fall, and nothing else comes on record
abbrev pub Grown : Option ℕ → Option ℕ → Type 0
Grown None None = Unit {0}
Grown None (Some n) = ⊥
Grown (Some m) None = ⊥
Grown (Some m) (Some n) = m ≤ n

-- no counter passes 9,999
abbrev pub Limited : List Record → Type 0
Limited es = (d : List ℕ) (n : ℕ) → counter_of es d ≡ Some n → n ≤ 9999

-- c is the base b itself, found without a probe, or a numbered form of b
abbrev pub Candidate : List ℕ → List ℕ → ℕ → Type 0
Candidate b c p = ((p ≡ 0) × (c ≡ b)) ⊎ ((0 < p) × ((k : ℕ) × Suffix k × (c ≡ form b k)))

-- of a granted name c, with the records es before and fs after; it is bare where there was no probe
pub record Granted (vetoes : List ℕ → Bool → Bool) (b : List ℕ) (es fs : List Record) (c : List ℕ) (p : ℕ) : Type 0 where
  pub candidate : Candidate b c p
  pub unrecorded : counter_of es c ≡ None
  pub recorded : counter_of fs c ≡ Some 0
  pub unvetoed : vetoes c (p == 0) ≡ false
  pub others : (d : List ℕ) → (d ≢ c) → Grown (counter_of es d) (counter_of fs d)
  pub apart : Apart es → Apart fs
  pub limited : Limited es → Limited fs

-- nothing comes on record, every record stays, and no counter falls
pub record Kept (es fs : List Record) : Type 0 where
  pub grown : (d : List ℕ) → Grown (counter_of es d) (counter_of fs d)
  pub apart : Apart es → Apart fs
  pub limited : Limited es → Limited fs

-- of a refusal: only counters may have risen, and only on the way to a limit (11, 12)
pub record Refused (es fs : List Record) (why : ℕ) : Type 0 where
  pub kept : Kept es fs
  pub unchanged : why < 11 → fs ≡ es

-- how many of 1 to n pass the test
unfoldable pub count : (ℕ → Bool) → ℕ → ℕ
count t zero = 0
count t (suc n) = cond (t (suc n)) 1 0 + count t n

module _ (vetoes : List ℕ → Bool → Bool) (b : List ℕ) (es : List Record) where
  -- the form of number k is on record
  abbrev pub is_recorded : ℕ → Bool
  is_recorded k = is_some (counter_of es (form b k))

  -- it is not, and it is vetoed
  abbrev pub is_vetoed : ℕ → Bool
  is_vetoed k = not (is_recorded k) && vetoes (form b k) false

  abbrev pub recorded_forms : ℕ
  recorded_forms = count is_recorded 9999

  abbrev pub vetoed_forms : ℕ
  vetoed_forms = count is_vetoed 9999

  abbrev pub most_probes : ℕ
  most_probes = (recorded_forms * (recorded_forms + vetoed_forms + 1) + 1) * (vetoed_forms + 1)

  -- the probes are bounded, and a search is too long only where the bound passes 4,096
  abbrev pub Bounded : Outcome → Type 0
  Bounded (granted fs c p) = p ≤ most_probes
  Bounded (refused fs why) = why ≡ 12 → 4096 < most_probes

  -- what a search grants, and what it leaves
  abbrev pub Sound : Outcome → Type 0
  Sound (granted fs c p) = Granted vetoes b es fs c p
  Sound (refused fs why) = Refused es fs why
