use Rattle.std.proofs.Common.{ℕ, Result, drop}
use Rattle.std.specs.Global.{Vec}
use Rattle.std.specs.declared.alloc.AllocError.{AllocError}
use Rattle.std.specs.List.{flat_map}
use Rattle.answer_lines.specs.Writing.{Writes}
use Rattle.answer_lines.proofs.piece.write_each.Given as goal

-- whatever writing the pieces that are left leaves and answers, writing all does from the start
abbrev pub invariant-loop-piece : goal.invariant-loop-piece
invariant-loop-piece g l = (w : Vec ℕ) (o : Result (Unit {0}) AllocError) → Writes l.out w o (flat_map g.P.Piece.text (drop l.piece-index l.pieces)) → Writes l.initial.out w o (flat_map g.P.Piece.text l.pieces)
