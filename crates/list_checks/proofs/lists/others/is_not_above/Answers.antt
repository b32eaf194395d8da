use Rattle.std.proofs.Common.{not, ap}
use Rattle.list_checks.proofs.Orders.{pair_ascends}
use Rattle.list_checks.proofs.lists.others.is_not_above.Goals as goal

pub returns : goal.returns
returns c = ap not (pair_ascends c.args.first c.args.second c.ascends.result c.ascends.ensures)
