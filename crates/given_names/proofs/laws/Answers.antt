use Rattle.given_names.proofs.Counts.{at_most_symbols}
use Rattle.given_names.proofs.laws.Goals as goal

pub returns : goal.returns
returns g c = at_most_symbols
