use Rattle.std.proofs.Common.{◌≡◌, ℕ, Option, drop}
use Rattle.row_checks.specs.Told.{Tells, first_told}
use Rattle.row_checks.proofs.Told.{told_from}
use Rattle.row_checks.proofs.rows.check_rows.Given as goal

abbrev pub invariant-loop-number : goal.invariant-loop-number
invariant-loop-number g l =
    (says : _ → _ → Option ℕ) → Tells (goal.C-post g l.check) says → told_from says l.number (drop l.number l.rows) ≡ first_told says l.rows
