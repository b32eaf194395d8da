-- The limits of a chunk's tables. Assumes nothing.
use Rattle.std.specs.Prelude.{ℕ, ◌+◌, Bool, ◌||◌, List, [], ◌∷◌, length, ◌==◌, nat_lt}
use Rattle.chunk_tables.specs.Model.{Chunk}

-- how many of something all rows have together
abbrev pub in_all : {A : Type 0} → (A → ℕ) → List A → ℕ
in_all f [] = 0
in_all f (x ∷ xs) = f x + in_all f xs

abbrev pub scope_count : Chunk → ℕ
scope_count c = in_all (λ M. length M.parents) c.modules

abbrev pub symbol_count : Chunk → ℕ
symbol_count c = in_all (λ M. length M.symbols) c.modules

abbrev pub reference_count : Chunk → ℕ
reference_count c = in_all (λ M. length M.references) c.modules

-- more modules, scopes, symbols or references than a chunk may have, or a number of name records that it may not have
abbrev pub over_limits : ℕ → ℕ → ℕ → ℕ → ℕ → Bool
over_limits ms ss ys rs ns = nat_lt 256 ms || (nat_lt 16384 ss || (nat_lt 16384 ys || (nat_lt 32768 rs || (ns == 0 || nat_lt 4096 ns))))

abbrev pub too_large : Chunk → Bool
too_large c = over_limits (length c.modules) (scope_count c) (symbol_count c) (reference_count c) c.records
