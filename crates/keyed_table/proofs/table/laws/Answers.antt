use Rattle.keyed_table.proofs.Lawful as lawful
use Rattle.keyed_table.proofs.table.laws.Goals as goal

pub returns : goal.returns
returns g c = lawful.laws g.K.PartialEq.eq g.met.K.HashKey.tells
