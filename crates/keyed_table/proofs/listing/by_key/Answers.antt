use Rattle.std.proofs.Common.{Some, refl}
use Rattle.keyed_table.specs.Listed.{key_of}
use Rattle.keyed_table.specs.Ranks.{answer_lt, ranked}
use Rattle.keyed_table.proofs.Listings.{sorted_by}
use Rattle.keyed_table.proofs.listing.by_key.Goals as goal

pub returns-clause-sorted : goal.returns-clause-sorted
returns-clause-sorted g c =
    let under = g.K.OrderedKey.under in
    sorted_by key_of {cmp = ranked under} {partial = λ x y. Some (ranked under x y)} (λ _ _. refl) (λ x y. answer_lt (under x y) (under y x)) _ c.sort_unstable.ensures.sorted
