use Rattle.conflict_resolver.proofs.WorkedCases.{worked}
use Rattle.conflict_resolver.proofs.worked_searches.Goals as goal

pub returns : goal.returns
returns c = worked
