use Rattle.std.proofs.Common.{ap, ◌∙◌}
use Rattle.std.specs.Option.{option_map}
use Rattle.names.specs.Spelt.{spelt}
use Rattle.renamer.specs.State.{helper_entries}
use Rattle.renamer.proofs.Others.{found_helper}
use Rattle.renamer.proofs.renamer.Renamer.require_name.Goals as goal

pub returns : goal.returns
returns c = ap (option_map spelt) c.find.ensures ∙ found_helper (helper_entries c.args.self.now) c.args.chunk
