use Rattle.std.proofs.Common.{◌≡◌, ◌+◌, ◌<◌, [], ◌∷◌, ◌++◌, length, take, drop, is_some, sym, ap, ◌∙◌, arith, rules}
use Rattle.std.specs.Option.{option_to_list}
use Rattle.std.proofs.lemmas.List.{take_more_set, drop-set-lt, drop-drop}
use Rattle.std.proofs.lemmas.Bool.{false≢true}
use Rattle.keyed_table.specs.Links.{held}
use Rattle.keyed_table.proofs.Held.{held_more}
use Rattle.keyed_table.proofs.listing.copy_out.Goals as goal
use Rattle.keyed_table.proofs.listing.copy_out.Goals.{in-Some, in_default}

pub offset_bounds-out-i : goal.offset_bounds-out-i
offset_bounds-out-i g c = let h : c.loop-i.i < length c.args.out.now = omega arith in search rules

pub loop-i-preserved : goal.loop-i-preserved
loop-i-preserved g c =
    let slots = c.args.slots.now in
    let i = c.loop-i.i in
    let out = c.loop-i.out in
    let s = c.index-slots-i.result in
    let at = ap (λ x. x.entry) c.index-slots-i.is in
    let h : i < length slots = c.loop-i-test.true in
    let m : i < length out = omega arith in
    elim c.match-slot.branch [
      | in-Some w ↦
          let e = w.in-Some.entry in
          let grown : held slots (i + 1) ≡ held slots i ++ e ∷ [] = held_more slots i s h ∙ ap (λ o. held slots i ++ option_to_list o) (sym at ∙ w.in-Some.is) in (
            ap (take (i + 1)) w.out-is ∙ take_more_set out i e m ∙ ap (λ t. t ++ e ∷ []) c.loop-i.invariant.0 ∙ sym grown,
            ap (drop (i + 1)) w.out-is ∙ drop-set-lt (i + 1) out i e (omega arith) ∙ sym (drop-drop 1 i out) ∙ ap (drop 1) c.loop-i.invariant.1 ∙ drop-drop 1 i c.args.out.now,
          )
      | in_default w ↦ absurd (false≢true (sym (ap is_some w.in_default.is) ∙ ap is_some at ∙ c.requires.full i s h))
    ]
