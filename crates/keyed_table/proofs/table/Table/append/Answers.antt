use Rattle.std.proofs.Common.{◌≡◌, ◌%◌, ◌<◌, [], ◌∷◌, ◌++◌, length, sym, ap, ◌∙◌, subst, mod-lt, arith}
use Rattle.keyed_table.specs.Contents.{Contents}
use Rattle.keyed_table.specs.Model.{Distinct}
use Rattle.keyed_table.proofs.Views.{length_held}
use Rattle.keyed_table.proofs.Wires.{wired_appended, held_appended}
use Rattle.keyed_table.proofs.table.Table.append.Goals as goal

pub index_mut-slot-requires : goal.index_mut-slot-requires
index_mut-slot-requires g c =
    let space = subst (λ (t : Contents g.row.K.Denot g.row.V.Denot). length t.entries < length t.memory) (sym c.self.view_is) c.requires.space in
    omega (arith, space, length_held _ _ c.self.invariant)

pub invariant_of-self : goal.invariant_of-self
invariant_of-self g c =
    let hashed = g.K.HashKey.hashed in
    let slots = c.self.inside.slots.items in
    let space = subst (λ (t : Contents g.row.K.Denot g.row.V.Denot). length t.entries < length t.memory) (sym c.self.view_is) c.requires.space in
    let fresh = subst (λ (t : Contents g.row.K.Denot g.row.V.Denot). Distinct (t.entries ++ c.args.entry ∷ [])) (sym c.self.view_is) c.requires.fresh in
    let hash : c.args.hash ≡ hashed c.args.entry.key = c.requires.hash in
    let long : c.len.result ≡ length slots = omega arith in
    let home : c.args.hash % c.len.result ≡ hashed c.args.entry.key % length slots = ap (λ h. h % c.len.result) hash ∙ ap (λ n. hashed c.args.entry.key % n) long in
    wired_appended hashed slots _ c.self.invariant c.args.entry c.args.hash _ _ _ _ (omega (arith, space, length_held _ _ c.self.invariant)) (subst (λ b. b < length slots) (sym home) (mod-lt (hashed c.args.entry.key) (omega (arith, space)))) home
    c.index_mut-slot.ensures.value c.index.ensures c.index_mut.ensures.value hash fresh

pub returns-clause-entries : goal.returns-clause-entries
returns-clause-entries g c =
    let hashed = g.K.HashKey.hashed in
    let slots = c.self.inside.slots.items in
    let space = subst (λ (t : Contents g.row.K.Denot g.row.V.Denot). length t.entries < length t.memory) (sym c.self.view_is) c.requires.space in
    let hash : c.args.hash ≡ hashed c.args.entry.key = c.requires.hash in
    let long : c.len.result ≡ length slots = omega arith in
    let home : c.args.hash % c.len.result ≡ hashed c.args.entry.key % length slots = ap (λ h. h % c.len.result) hash ∙ ap (λ n. hashed c.args.entry.key % n) long in
    held_appended hashed slots _ c.self.invariant c.args.entry c.args.hash _ _ _ _ (omega (arith, space, length_held _ _ c.self.invariant)) (subst (λ b. b < length slots) (sym home) (mod-lt (hashed c.args.entry.key) (omega (arith, space)))) home
    c.index_mut-slot.ensures.value c.index.ensures c.index_mut.ensures.value
    ∙ ap (λ (t : Contents g.row.K.Denot g.row.V.Denot). t.entries ++ c.args.entry ∷ []) c.self.view_is
