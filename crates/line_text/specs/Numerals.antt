-- The number that digits write. Assumes nothing.
use Rattle.std.specs.Prelude.{ℕ, ◌+◌, ◌-◌, ◌*◌, ◌^◌, Bool, cond, ◌&&◌, List, [], ◌∷◌, Some, None, Option, nat_le, nat_lt}

-- 0 to 9, as bytes
abbrev pub is_digit : ℕ → Bool
is_digit c = nat_le 48 c && nat_le c 57

-- n with the digits behind it, while it fits 32 bits
abbrev pub read_on : ℕ → List ℕ → Option ℕ
read_on n [] = Some n
read_on n (c ∷ cs) = cond (is_digit c && nat_lt (n * 10 + (c - 48)) (2 ^ 32)) (read_on (n * 10 + (c - 48)) cs) None

-- what one digit or more write; nothing where anything else is among them
abbrev pub numeral : List ℕ → Option ℕ
numeral [] = None
numeral (c ∷ cs) = read_on 0 (c ∷ cs)
