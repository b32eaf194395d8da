use Rattle.std.proofs.Common.{◌+◌, Ok, Err, get_or, drop, subst, sym}
use Rattle.std.specs.List.{flat_map}
use Rattle.std.proofs.lemmas.List.{at_drop_more, drop_all}
use Rattle.std.proofs.lemmas.Result.{err_from_is_err_and}
use Rattle.chunk_tables.specs.View.{chunk_of}
use Rattle.reservations.specs.Reserved.{reserved_by_member}
use Rattle.reservations.specs.Reserving.{Reserves}
use Rattle.reservations.proofs.Chained.{nothing, ends, goes_on}
use Rattle.reservations.proofs.reserving.reserve_numbered.Goals as goal

pub returns-in_err-reserve_member : goal.returns-in_err-reserve_member
returns-in_err-reserve_member c =
    let p = err_from_is_err_and c.from_residual.result c.from_residual.ensures.1 in
    let by = reserved_by_member c.args.format (chunk_of c.args.chunk.now) in
    let ms = c.args.members.now in
    let i = c.loop-member.member-index in
    let e = Err c.in_err-reserve_member.field-0.0 in
    let s = c.reserve_member.new.to in
    let h = ends _ _ _ (by (get_or ms i 0)) (flat_map by (drop (i + 1) ms)) c.in_err-reserve_member.ensures in
    rw (p.1, p.2) (c.loop-member.invariant s e (subst (Reserves c.loop-member.to s e) (sym (at_drop_more (flat_map by) ms i 0 c.loop-member-test.true)) h))

pub loop-member-preserved : goal.loop-member-preserved
loop-member-preserved c s o h =
    let by = reserved_by_member c.args.format (chunk_of c.args.chunk.now) in
    let ms = c.args.members.now in
    let i = c.loop-member.member-index in
    let g = goes_on _ _ _ _ (by (get_or ms i 0)) (flat_map by (drop (i + 1) ms)) c.in_ok-reserve_member.ensures h in
    c.loop-member.invariant s o (subst (Reserves c.loop-member.to s o) (sym (at_drop_more (flat_map by) ms i 0 c.loop-member-test.true)) g)

pub returns : goal.returns
returns c =
    let t = c.loop-member.to in
    let by = reserved_by_member c.args.format (chunk_of c.args.chunk.now) in
    c.loop-member.invariant t (Ok tt) (subst (λ ms. Reserves t t (Ok tt) (flat_map by ms)) (sym (drop_all c.loop-member.member-index c.args.members.now c.loop-member-test.false)) (nothing t))
