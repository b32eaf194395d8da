use Rattle.std.proofs.Common.{sym, ap, ◌∙◌}
use Rattle.std.specs.Option.{option_map}
use Rattle.keyed_table.proofs.Lookups.{lookup_none, lookup_sought}
use Rattle.keyed_table.proofs.table.Table.find.Goals as goal

pub returns-in_err-place_of : goal.returns-in_err-place_of
returns-in_err-place_of g c = c.from_residual.ensures ∙ sym (lookup_none g.K.PartialEq.eq _ _ c.in_err-place_of.ensures.sought)

pub returns : goal.returns
returns g c =
    let found = lookup_sought g.K.PartialEq.eq g.met.K.HashKey.tells _ _ c.place_of.ensures.distinct _ c.in_ok-place_of.ensures.sought in
    sym (found ∙ ap (option_map (λ e. e.value)) (sym c.entry.ensures ∙ c.in_ok-entry.was))
