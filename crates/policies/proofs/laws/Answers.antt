use Rattle.policies.proofs.Parts.{names_of_symbols, no_other_names}
use Rattle.policies.proofs.laws.Goals as goal

pub returns : goal.returns
returns c = record { of_symbols = names_of_symbols; no_others = no_other_names }
