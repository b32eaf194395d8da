-- The worked session, computed. Assumes nothing.
use Rattle.std.proofs.Common.{refl}
use Rattle.std.specs.Fmt.{digits}
use Rattle.chunk_tables.specs.Links.{canonical}
use Rattle.conflict_resolver.specs.Records.{counter_of, raised}
use Rattle.conflict_resolver.specs.Rules.{follow, run, searched, reserved}
use Rattle.session_rules.specs.Cases.{Worked}

pub worked : Worked
unfolding digits canonical counter_of raised follow run searched reserved
worked = refl
