use Rattle.std.proofs.Common.{ap, ◌∙◌}
use Rattle.std.specs.Option.{option_map}
use Rattle.names.specs.Spelt.{spelt}
use Rattle.given_names.specs.Held.{entries_of}
use Rattle.given_names.proofs.Named.{found_name}
use Rattle.given_names.proofs.GivenNames.name_of.Goals as goal

pub returns : goal.returns
returns c = ap (option_map spelt) c.find.ensures ∙ found_name (entries_of c.args.self.now) c.args.symbol
