use Rattle.std.proofs.Common.{refl}
use Rattle.keys.specs.NameOrder.{name_agrees}
use Rattle.keyed_table.proofs.Listings.{sorted_by}
use Rattle.conflict_resolver.specs.Rows.{name_of}
use Rattle.conflict_resolver.proofs.resolver.records.by_name.Goals as goal

pub returns-clause-sorted : goal.returns-clause-sorted
returns-clause-sorted c = sorted_by name_of (λ _ _. refl) name_agrees _ c.sort_unstable.ensures.sorted
