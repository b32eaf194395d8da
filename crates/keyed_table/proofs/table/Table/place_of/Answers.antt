use Rattle.std.proofs.Common.{◌≡◌, ℕ, ◌%◌, ◌<◌, length, get_or, sym, ap, ◌∙◌, subst, mod-lt, arith}
use Rattle.std.proofs.lemmas.Bool.Decides.{nat_tests}
use Rattle.keyed_table.specs.Model.{Last, Absent}
use Rattle.keyed_table.proofs.Seeks.{Seeking, seeking_start, seeking_next, next_less, sought_here, sought_none}
use Rattle.keyed_table.proofs.table.Table.place_of.Goals as goal

pub loop-at-init : goal.loop-at-init
loop-at-init g c =
    let hashed = g.K.HashKey.hashed in
    let slots = c.self.inside.slots.items in
    let hash : c.args.hash ≡ hashed c.args.key.now = c.requires in
    let long : c.len.result ≡ length slots = omega arith in
    let home : c.args.hash % c.len.result ≡ hashed c.args.key.now % length slots = ap (λ h. h % c.len.result) hash ∙ ap (λ n. hashed c.args.key.now % n) long in
    let P : ℕ → Type 0 = λ b. Seeking g.K.PartialEq.eq hashed slots c.self.inside.len c.args.key.now (get_or slots b c.index.result.now).head in
    let some : 0 < length slots = grind (arith, nat_tests, c.is_empty.ensures, c.if-is_empty.false) in
    let at : c.index.result.now.head ≡ (get_or slots (c.args.hash % c.len.result) c.index.result.now).head = ap (λ s. s.head) c.index.ensures in
    subst (Seeking g.K.PartialEq.eq hashed slots c.self.inside.len c.args.key.now) (sym at)
    (subst P (sym home) (seeking_start g.K.PartialEq.eq hashed slots _ c.args.key.now g.met.K.HashKey.tells c.self.invariant c.index.result.now (mod-lt (hashed c.args.key.now) some)))

pub returns-then-is_for-clause-sought : goal.returns-then-is_for-clause-sought
returns-then-is_for-clause-sought g c =
    subst (λ t. Last g.K.PartialEq.eq t.entries c.args.key.now c.in-Some.i) c.self.view_is
    (sought_here g.K.PartialEq.eq g.K.HashKey.hashed _ _ _ g.met.K.HashKey.tells c.self.invariant _ _ _ c.loop-at.invariant c.in-Some.is c.index-slot.ensures c.args.hash c.requires c.if-is_for.ensures)

pub loop-at-smaller : goal.loop-at-smaller
loop-at-smaller g c = next_less g.K.PartialEq.eq g.K.HashKey.hashed _ _ _ g.met.K.HashKey.tells c.self.invariant _ _ _ c.loop-at.invariant c.in-Some.is c.index-slot.ensures

pub loop-at-preserved : goal.loop-at-preserved
loop-at-preserved g c =
    seeking_next g.K.PartialEq.eq g.K.HashKey.hashed _ _ _ g.met.K.HashKey.tells c.self.invariant _ _ _ c.loop-at.invariant c.in-Some.is c.index-slot.ensures c.args.hash c.requires c.is_for.result c.if-is_for.false c.is_for.ensures

pub returns-clause-sought : goal.returns-clause-sought
returns-clause-sought g c =
    subst (λ t. Absent g.K.PartialEq.eq t.entries c.args.key.now) c.self.view_is
    (sought_none g.K.PartialEq.eq g.K.HashKey.hashed _ _ _ g.met.K.HashKey.tells c.self.invariant (subst (Seeking g.K.PartialEq.eq g.K.HashKey.hashed _ _ _) c.in_default.is c.loop-at.invariant))
