-- Texts that are too long. Assumes nothing.
use Rattle.std.proofs.Common.{◌≡◌, ℕ, ◌<◌, false, List, length, arith}
use Rattle.names.specs.Bases.{is_base}

pub no_base : (t : List ℕ) → 105 < length t → is_base t ≡ false
no_base t h = grind (arith)
