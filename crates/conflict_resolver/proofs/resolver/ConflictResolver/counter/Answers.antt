use Rattle.std.proofs.Common.{◌∙◌}
use Rattle.conflict_resolver.proofs.Rows.{lookup_counter}
use Rattle.conflict_resolver.proofs.resolver.ConflictResolver.counter.Goals as goal

pub returns : goal.returns
returns c = c.find.ensures ∙ lookup_counter c.args.self.now.used.entries c.args.name.now
