use Rattle.std.proofs.Common.{refl, lit≤}
use Rattle.names.proofs.Padding.{zeros}
use Rattle.names.proofs.name.text.NameDefault.default.Goals as goal

pub invariant_of-result : goal.invariant_of-result
invariant_of-result c = record { fits = lit≤ tt; whole = refl; padded = λ k l. zeros 105 k }
