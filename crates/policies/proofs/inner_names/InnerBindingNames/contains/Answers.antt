use Rattle.std.proofs.Common.{ap, ◌∙◌, is_some}
use Rattle.names.specs.Spelt.{spelt}
use Rattle.policies.proofs.Notes.{lookup_has}
use Rattle.policies.proofs.inner_names.InnerBindingNames.contains.Goals as goal

pub returns : goal.returns
returns c = c.is_some.ensures ∙ ap is_some c.find.ensures ∙ lookup_has c.args.self.now.names.entries c.args.name.now ∙ c.args.self.now.filled (spelt c.args.name.now)
