use Rattle.std.proofs.Common.{◌≡◌, ◌<◌, ◌≤◌, length, get_or, take, sym, ap, ◌∙◌, arith}
use Rattle.std.specs.List.{slice_get}
use Rattle.std.proofs.lemmas.List.{get_or-take, length-take-le}
use Rattle.std.proofs.lemmas.Option.{slice_get_past}
use Rattle.keyed_table.proofs.Views.{length_held, nth_held}
use Rattle.keyed_table.proofs.table.Table.entry.Goals as goal

pub returns-in_err-get : goal.returns-in_err-get
returns-in_err-get g c =
    let n = length_held _ _ c.self.invariant in
    let whole : length (take c.self.inside.len c.deref.result.now) ≡ c.self.inside.len = ap (λ ss. length (take c.self.inside.len ss)) c.deref.ensures.value ∙ length-take-le c.self.inside.len c.self.inside.slots.items c.self.invariant.within in
    let past : length (take c.self.inside.len c.deref.result.now) ≤ c.args.i = c.in_err-get.ensures.lookup.3 in
    c.from_residual.ensures ∙ sym (slice_get_past _ c.args.i (omega arith)) ∙ ap (λ t. slice_get t.entries c.args.i) c.self.view_is

pub returns : goal.returns
returns g c =
    let s = c.in_ok-get.field-0.now in
    let whole : length (take c.self.inside.len c.deref.result.now) ≡ c.self.inside.len = ap (λ ss. length (take c.self.inside.len ss)) c.deref.ensures.value ∙ length-take-le c.self.inside.len c.self.inside.slots.items c.self.invariant.within in
    let within : c.args.i < length (take c.self.inside.len c.deref.result.now) = c.in_ok-get.ensures.lookup.3.0 in
    let here : c.args.i < c.self.inside.len = omega arith in
    nth_held _ _ c.self.invariant c.args.i s here (c.in_ok-get.ensures.lookup.1 ∙ get_or-take c.self.inside.len c.deref.result.now c.args.i s here ∙ ap (λ ss. get_or ss c.args.i s) c.deref.ensures.value)
    ∙ ap (λ t. slice_get t.entries c.args.i) c.self.view_is
