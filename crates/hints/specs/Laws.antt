-- What holds of cleaned names and hints. Assumes nothing.
use Rattle.std.specs.Prelude.{◌≡◌, ℕ, true, List, ◌++◌, length, codes}
use Rattle.std.specs.List.{All}
use Rattle.names.specs.Bases.{is_base}
use Rattle.hints.specs.Hints.{is_plain, cleaned, prefix, hint}

-- a hint is a base just where it would be one with the name as it stands: only how long the name is counts
abbrev pub JudgedUncleaned : Type 0
JudgedUncleaned = (n : List ℕ) → is_base (hint n) ≡ is_base (prefix ++ n)

abbrev pub CleanedIsPlain : Type 0
CleanedIsPlain = (n : List ℕ) → All (λ b. is_plain b ≡ true) (cleaned n)

abbrev pub CleanedStays : Type 0
CleanedStays = (n : List ℕ) → cleaned (cleaned n) ≡ cleaned n

abbrev pub KeepsLength : Type 0
KeepsLength = (n : List ℕ) → length (cleaned n) ≡ length n

-- a hint written out
abbrev pub Example : Type 0
Example = hint (codes "lib/util-2.$x.js") ≡ codes "require_lib_util_2_$x_js"
