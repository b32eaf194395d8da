-- A text cut at a byte. Assumes nothing.
use Rattle.std.specs.Prelude.{ℕ, not, List, drop, ◌==◌}
use Rattle.std.specs.List.{before_first, after_first, position_or_len}

-- what stands before the first b; the whole text where there is none
abbrev pub until : ℕ → List ℕ → List ℕ
until b xs = before_first (λ x. x == b) xs

-- what follows the first b; nothing where there is none
abbrev pub past : ℕ → List ℕ → List ℕ
past b xs = after_first (λ x. x == b) xs

-- the text without the spaces in front
abbrev pub trimmed : List ℕ → List ℕ
trimmed xs = drop (position_or_len (λ x. not (x == 32)) xs) xs
