-- The worked searches, computed. Assumes nothing.
use Rattle.std.proofs.Common.{refl}
use Rattle.std.specs.Fmt.{digits}
use Rattle.conflict_resolver.specs.Records.{counter_of, raised}
use Rattle.conflict_resolver.specs.Rules.{follow, run, searched}
use Rattle.conflict_resolver.specs.Cases.{Worked}

pub worked : Worked
unfolding digits counter_of raised follow run searched
worked = record {
  empty = refl;
  conflict = refl;
  jumps = refl;
  counter = refl;
  stale = refl;
  bare_veto = refl;
  bare_veto_taken = refl;
  last = refl;
  over = refl;
  too_long = refl;
  limit_first = refl;
  full = refl;
  no_name = refl;
}
