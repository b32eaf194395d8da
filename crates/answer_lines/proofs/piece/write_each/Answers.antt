use Rattle.std.proofs.Common.{◌+◌, ◌++◌, Ok, Err, sym, ap, subst, ◌∙◌, drop, arith}
use Rattle.std.specs.List.{flat_map}
use Rattle.std.proofs.lemmas.List.{at_drop_more, at_drop_all}
use Rattle.std.proofs.lemmas.Result.{err_from_is_err_and}
use Rattle.answer_lines.specs.Writing.{Writes}
use Rattle.answer_lines.proofs.Writings.{nothing, ends, goes_on}
use Rattle.answer_lines.proofs.piece.write_each.Goals as goal

pub returns-in_err-write : goal.returns-in_err-write
returns-in_err-write g c =
    let p = err_from_is_err_and c.from_residual.result c.from_residual.ensures.1 in
    let T = g.P.Piece.text in
    let ps = c.args.pieces.now in
    let i = c.loop-piece.piece-index in
    let x = c.piece-item.result in
    let rest = flat_map T (drop (i + 1) ps) in
    let next = at_drop_more (flat_map T) ps i x (omega arith) ∙ ap (λ y. T y ++ rest) (sym c.piece-item.is) in
    let h = subst (λ o. Writes c.loop-piece.out c.write.new.out o (T x)) c.in_err-write.was c.write.ensures in
    rw (p.1, p.2) (c.loop-piece.invariant _ _ (subst (Writes c.loop-piece.out c.write.new.out (Err c.in_err-write.field-0.0)) (sym next) (ends _ _ _ (T x) rest h)))

pub loop-piece-preserved : goal.loop-piece-preserved
loop-piece-preserved g c w o k =
    let T = g.P.Piece.text in
    let ps = c.args.pieces.now in
    let i = c.loop-piece.piece-index in
    let x = c.piece-item.result in
    let rest = flat_map T (drop (i + 1) ps) in
    let next = at_drop_more (flat_map T) ps i x (omega arith) ∙ ap (λ y. T y ++ rest) (sym c.piece-item.is) in
    let h = subst (λ r. Writes c.loop-piece.out c.write.new.out r (T x)) c.in_ok-write.was c.write.ensures in
    c.loop-piece.invariant w o (subst (Writes c.loop-piece.out w o) (sym next) (goes_on _ _ _ o (T x) rest h k))

pub returns : goal.returns
returns g c =
    let T = g.P.Piece.text in
    c.loop-piece.invariant _ _
    (subst (Writes c.loop-piece.out c.loop-piece.out (Ok tt)) (sym (at_drop_all (flat_map T) c.args.pieces.now c.loop-piece.piece-index (omega arith))) (nothing c.loop-piece.out))
