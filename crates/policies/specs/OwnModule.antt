-- The own-module policy, of authored symbols. Assumes nothing.
use Rattle.std.specs.Prelude.{ℕ, Bool, false, not, ◌&&◌, List}
use Rattle.std.specs.List.{slice_get}
use Rattle.chunk_tables.specs.Bindings.{bound_anywhere}
use Rattle.chunk_tables.specs.Lists.{maybe}
use Rattle.chunk_tables.specs.Model.{Chunk}

-- a numbered form is vetoed where some scope of module m binds it; a number that is no module vetoes nothing
abbrev pub own_module_vetoes : Chunk → ℕ → List ℕ → Bool → Bool
own_module_vetoes c m n bare = not bare && maybe (slice_get c.modules m) false (λ M. bound_anywhere M n)
