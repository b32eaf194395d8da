use Rattle.std.proofs.Common.{◌≡◌, ℕ, ◌≤◌, List, ◌++◌, length, take, drop, is_some, refl, sym, ap, ◌∙◌, subst, arith}
use Rattle.std.specs.List.{flat_map}
use Rattle.std.specs.Option.{option_to_list}
use Rattle.std.proofs.lemmas.List.{take-take, length-take-le, get_or-take}
use Rattle.keyed_table.specs.Contents.{Contents}
use Rattle.keyed_table.specs.Links.{Full, held}
use Rattle.keyed_table.specs.Listed.{key_of, Listed}
use Rattle.keyed_table.specs.declared.slot.Slot.{Slot}
use Rattle.keyed_table.proofs.Views.{length_held}
use Rattle.keyed_table.proofs.Listings.{keys_apart, listed}
use Rattle.keyed_table.proofs.table.Table.list.Goals as goal

full_front : {K V : Type 0} (slots : List (Slot K V)) (n : ℕ) → n ≤ length slots → Full slots n → Full (take n slots) (length (take n slots))
full_front slots n l full i d m =
    let k = length-take-le n slots l in
    ap (λ (s : Slot _ _). is_some s.entry) (get_or-take n slots i d (omega arith)) ∙ full i d (omega arith)

held_front : {K V : Type 0} (slots : List (Slot K V)) (n : ℕ) → held (take n slots) n ≡ held slots n
held_front slots n = ap (flat_map (λ s. option_to_list s.entry)) (take-take n n slots (omega arith))

pub returns-then-out-n : goal.returns-then-out-n
returns-then-out-n g c =
    (refl, omega (arith, length_held _ _ c.self.invariant, ap (λ (t : Contents g.row.K.Denot g.row.V.Denot). length t.entries) c.self.view_is), refl)

pub returns : goal.returns
returns g c =
    let slots = c.self.inside.slots.items in
    let n = c.self.inside.len in
    let out = c.copy_out.new.out in
    let w = c.self.invariant.within in
    let m : length (take n c.deref.result.now) ≡ n = ap (λ ss. length (take n ss)) c.deref.ensures.value ∙ length-take-le n slots w in
    let front : take n out ≡ held slots n =
    subst (λ k. take k out ≡ held (take n c.deref.result.now) k) m c.copy_out.ensures.front ∙ ap (λ ss. held (take n ss) n) c.deref.ensures.value ∙ held_front slots n in
    let rest : drop n out ≡ drop n c.args.out.now = subst (λ k. drop k out ≡ drop k c.args.out.now) m c.copy_out.ensures.rest in
    subst (λ (t : Contents g.row.K.Denot g.row.V.Denot). Listed key_of g.K.OrderedKey.under t.entries c.args.out.now (c.by_key.new.entries ++ drop n out) n) c.self.view_is
    (listed key_of g.K.OrderedKey.order (held slots n) (keys_apart (held slots n) c.self.invariant.distinct) c.args.out.now out c.by_key.new.entries n (sym (length_held slots n c.self.invariant)) front rest c.by_key.ensures.shuffled c.by_key.ensures.sorted)
