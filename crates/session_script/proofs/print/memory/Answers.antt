use Rattle.std.proofs.Common.{append_assoc}
use Rattle.session_script.proofs.print.memory.Goals as goal

pub returns : goal.returns
returns c = simp append_assoc c.write_each.ensures
