-- Rows as a machine counts them. Assumes nothing.
use Rattle.std.specs.Prelude.{◌≡◌, ◌-◌, ◌^◌, min, List, length}
use Rattle.chunk_tables.specs.Model.{Module}
use Rattle.chunk_tables.specs.Limits.{in_all}
use Rattle.chunk_tables.specs.declared.totals.Totals.{Totals}

pub record Counted (Ms : List Module) (t : Totals) : Type 0 where
  pub scopes : t.scopes ≡ min (in_all (λ M. length M.parents) Ms) (2 ^ 64 - 1)
  pub symbols : t.symbols ≡ min (in_all (λ M. length M.symbols) Ms) (2 ^ 64 - 1)
  pub references : t.references ≡ min (in_all (λ M. length M.references) Ms) (2 ^ 64 - 1)
