use Rattle.std.proofs.Common.{ℕ, List, sym}
use Rattle.std.specs.List.{range_with_len}
use Rattle.std.proofs.lemmas.Result.{err_from_is_err_and}
use Rattle.chunk_tables.specs.Model.{Chunk}
use Rattle.session_rules.specs.Calls.{Call}
use Rattle.deconflict_chunk_symbols.specs.Run.{used_call}
use Rattle.deconflict_chunk_symbols.proofs.Turns.{at_first, turn, stop, done, in_range, past_range, of_number}
use Rattle.deconflict_chunk_symbols.proofs.externals.name_used_of.Goals as goal

pub loop-symbol-init : goal.loop-symbol-init
loop-symbol-init c = at_first (λ k. used_call k c.args.owner) (range_with_len 0 c.symbol_count-symbol-end.result) c.args.renamer.now

pub returns-in_err-name_used : goal.returns-in_err-name_used
returns-in_err-name_used c =
    let f : Chunk → ℕ → List Call = λ k. used_call k c.args.owner in
    let n = c.symbol_count-symbol-end.result in
    let i = c.loop-symbol.symbol in
    let l = c.loop-symbol-test.true in
    let p = err_from_is_err_and c.from_residual.result c.from_residual.ensures.1 in
    rw (p.1, p.2, sym c.symbol_count-symbol-end.ensures) (stop f (range_with_len 0 n) c.loop-symbol.invariant 0 (in_range n i l) (of_number n i f l c.in_err-name_used.ensures))

pub loop-symbol-preserved : goal.loop-symbol-preserved
loop-symbol-preserved c =
    let f : Chunk → ℕ → List Call = λ k. used_call k c.args.owner in
    let n = c.symbol_count-symbol-end.result in
    let i = c.loop-symbol.symbol in
    let l = c.loop-symbol-test.true in
    turn f (range_with_len 0 n) c.loop-symbol.invariant 0 (in_range n i l) (of_number n i f l c.in_ok-name_used.ensures)

pub returns : goal.returns
returns c =
    let n = c.symbol_count-symbol-end.result in
    rw (sym c.symbol_count-symbol-end.ensures) (done (λ k. used_call k c.args.owner) (range_with_len 0 n) c.loop-symbol.invariant (past_range n c.loop-symbol.symbol c.loop-symbol-test.false))
