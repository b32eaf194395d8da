use Rattle.std.proofs.Common.{map, vec_items, ap, ◌∙◌}
use Rattle.reservations.proofs.Chained.{as_seen, unresolved_texts}
use Rattle.reservations.proofs.reserving.reserve_unresolved.Goals as goal

pub returns : goal.returns
returns c = as_seen _ _ _ _ _ (ap (map (λ u. vec_items u.name)) c.as_slice.ensures.value ∙ unresolved_texts (vec_items c.args.of.now.unresolved)) c.reserve_each.ensures
