-- The hints after which the helpers of other chunks are named. Assumes nothing.
use Rattle.std.specs.Prelude.{ℕ, Bool, ◌||◌, List, ◌++◌, map, ◌==◌, if◌then◌else◌, codes}
use Rattle.std.specs.Char.{is_ascii_alphanumeric}

-- the byte stays: it is an ASCII letter or digit, `_`, or `$`
abbrev pub is_plain : ℕ → Bool
is_plain b = is_ascii_alphanumeric b || b == 95 || b == 36

-- the byte, or `_` in its place
abbrev pub cleaned_byte : ℕ → ℕ
cleaned_byte b = if is_plain b then b else 95

abbrev pub cleaned : List ℕ → List ℕ
cleaned n = map cleaned_byte n

-- how every hint begins
abbrev pub prefix : List ℕ
prefix = codes "require_"

-- how the helper of a chunk with this name is to be called
abbrev pub hint : List ℕ → List ℕ
hint n = prefix ++ cleaned n
