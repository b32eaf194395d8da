-- The tests of a scope. Assumes nothing.
use Rattle.std.specs.Prelude.{ℕ, Bool, not, ◌&&◌, List, [], ◌∷◌, ◌==◌, nat_le}
use Rattle.chunk_tables.specs.Kinds.{is_normal}
use Rattle.chunk_tables.specs.Model.{Module}
use Rattle.chunk_faults.specs.Numbers.{is_scope}
use Rattle.chunk_faults.specs.Tests.{Test}

-- scope i lies within the root, and its parent p is missing
abbrev pub parent_strays : Module → ℕ → ℕ → Bool
parent_strays M i p = not (i == 0) && not (is_scope M p)

-- scope i lies within the root, and its parent p does not lead toward the root
abbrev pub parent_not_smaller : ℕ → ℕ → Bool
parent_not_smaller i p = not (i == 0) && nat_le i p

-- scope i lies within the root of an external module
abbrev pub scope_misplaced : Module → ℕ → Bool
scope_misplaced M i = not (i == 0) && not (is_normal M.kind)

-- of scope i with parent p; the root passes, whatever its row says
abbrev pub scope_tests : Module → ℕ → ℕ → List Test
scope_tests M i p = (2, parent_strays M i p) ∷ (3, parent_not_smaller i p) ∷ (4, scope_misplaced M i) ∷ []
