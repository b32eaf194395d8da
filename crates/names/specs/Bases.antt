-- What names are made from. Assumes nothing.
use Rattle.std.specs.Prelude.{ℕ, Bool, ◌&&◌, List, length, nat_le, nat_lt}

-- what numbered forms are made of, and what can be reserved: some bytes, but not so many that no form would fit a name
abbrev pub is_base : List ℕ → Bool
is_base b = nat_lt 0 (length b) && nat_le (length b) 100
