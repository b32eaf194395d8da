-- Scopes and the scopes around them. Assumes nothing.
use Rattle.std.specs.Prelude.{ℕ, zero, suc, Bool, true, cond, not, ◌||◌, List, [], ◌∷◌, Some, None, Option, ◌==◌, nat_lt}
use Rattle.std.specs.List.{slice_get}
use Rattle.chunk_tables.specs.Lists.{maybe}
use Rattle.chunk_tables.specs.Model.{Module}

-- whether what a scope binds is local in the output: it is in a wrapped module, and else below the root
abbrev pub inner : Module → ℕ → Bool
inner M s = M.wrapped || not (s == 0)

-- the parent of a scope, if it has the row of one in front of its own
abbrev pub parent_in : List ℕ → ℕ → Option ℕ
parent_in parents s = maybe (slice_get parents s) None (λ p. cond (nat_lt p s) (Some p) None)

-- the way from a scope outward, by n parents at most; the root is on it where that is asked for
abbrev pub outward : List ℕ → Bool → ℕ → ℕ → List ℕ
outward parents root zero s = cond (s == 0) (cond root (0 ∷ []) []) (s ∷ [])
outward parents root (suc n) s =
    cond (s == 0) (cond root (0 ∷ []) []) (s ∷ maybe (parent_in parents s) [] (outward parents root n))

-- the whole way: each parent has a smaller number, so there are no more of them than the scope's own number
abbrev pub ancestors : List ℕ → Bool → ℕ → List ℕ
ancestors parents root s = outward parents root s s

-- where a name is looked for that stands in a scope
abbrev pub enclosing : Module → ℕ → List ℕ
enclosing M s = ancestors M.parents true s

-- the part of that way whose bindings are local in the output
abbrev pub inner_enclosing : Module → ℕ → List ℕ
inner_enclosing M s = ancestors M.parents M.wrapped s
