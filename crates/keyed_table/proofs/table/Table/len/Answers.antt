use Rattle.std.proofs.Common.{length, sym, ap, ◌∙◌}
use Rattle.keyed_table.proofs.Views.{length_held}
use Rattle.keyed_table.proofs.table.Table.len.Goals as goal

pub returns : goal.returns
returns g c = sym (length_held _ _ c.self.invariant) ∙ ap (λ t. length t.entries) c.self.view_is
