use Rattle.std.proofs.Common.{◌≡◌, true, get_or}
use Rattle.std.proofs.lemmas.List.Elements.{All-map}
use Rattle.hints.specs.Hints.{is_plain, cleaned_byte}
use Rattle.hints.proofs.Cleaning.{byte_plain, settled}
use Rattle.hints.proofs.laws.Goals as goal

pub returns-clause-plain : goal.returns-clause-plain
returns-clause-plain c = λ n. All-map (λ b. is_plain b ≡ true) cleaned_byte n (λ k d h. byte_plain (get_or n k d))

pub returns-clause-settled : goal.returns-clause-settled
returns-clause-settled c = settled
