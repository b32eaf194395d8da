-- A table of names as a set, and names that are put into it. Assumes nothing.
use Rattle.std.specs.Prelude.{◌≡◌, ℕ, ◌+◌, ◌<◌, ◌≤◌, Bool, true, ◌||◌, ◌⊎◌, List, length, MatchResult, Result, nat_lt}
use Rattle.std.specs.List.{list_any}
use Rattle.std.specs.Str.{bytes_eq}
use Rattle.names.specs.Refusals.{number_of}
use Rattle.names.specs.Spelt.{spelt}
use Rattle.names.specs.declared.name.Name.{Name}
use Rattle.names.specs.declared.refusal.Refusal.{Refusal}
use Rattle.keyed_table.specs.Contents.{Contents, room}
use Rattle.keyed_table.specs.declared.slot.Entry.{Entry}
use Rattle.chunk_tables.specs.Model.{Chunk}
use Rattle.policies.specs.InnerNames.{inner_name}

-- one of the entries is spelt so
abbrev pub has : List (Entry Name (Unit {0})) → List ℕ → Bool
has es n = list_any (λ e. bytes_eq (spelt e.key) n) es

-- the entries have the inner names of the chunk, and no others
abbrev pub HoldsInnerNames : Chunk → List (Entry Name (Unit {0})) → Type 0
HoldsInnerNames c es = (n : List ℕ) → has es n ≡ inner_name c n

-- the entries fs have the names ns beside what es have, and are no more than as many
pub record Noted (ns : List (List ℕ)) (es fs : List (Entry Name (Unit {0}))) : Type 0 where
  pub names : (n : List ℕ) → has fs n ≡ (has es n || list_any (λ x. bytes_eq x n) ns)
  pub few : length fs ≤ length es + length ns

-- why the names ns cannot be put into so many slots, of which some are taken: one of the names is longer than 105 bytes,
-- or they are more than the slots that are left
abbrev pub Unnoted : List (List ℕ) → ℕ → ℕ → ℕ → Type 0
Unnoted ns slots taken why =
    ((why ≡ 7) × (list_any (λ x. nat_lt 105 (length x)) ns ≡ true)) ⊎ ((why ≡ 10) × (slots < taken + length ns))

-- what an answer says of names that were to be put into the table t, which is u now
abbrev pub Puts : Result (Unit {0}) Refusal → List (List ℕ) → Contents Name (Unit {0}) → Contents Name (Unit {0}) → Type 0
Puts r ns t u =
    MatchResult r (λ _. Noted ns t.entries u.entries) (λ e. Unnoted ns (room t) (length t.entries) (number_of e))
