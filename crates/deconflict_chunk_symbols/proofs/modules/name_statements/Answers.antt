use Rattle.std.proofs.Common.{map, flat_map, ap}
use Rattle.std.proofs.lemmas.Result.{err_from_is_err_and}
use Rattle.chunk_tables.specs.View.{module_of, statement_of}
use Rattle.renamer.specs.State.{chunk_in}
use Rattle.deconflict_chunk_symbols.specs.Run.{statement_calls}
use Rattle.deconflict_chunk_symbols.proofs.Turns.{as_seen, turn_viewed, stop_viewed, done_viewed}
use Rattle.deconflict_chunk_symbols.proofs.modules.name_statements.Goals as goal

pub returns-in_err-name_statement : goal.returns-in_err-name_statement
returns-in_err-name_statement c =
    let owner = c.args.owner in
    let of = module_of c.args.of.now in
    let items = c.deref-statement-items in
    let p = err_from_is_err_and c.from_residual.result c.from_residual.ensures.1 in
    let stopped = stop_viewed statement_of (λ k. statement_calls k owner of) items.result.now c.loop-statement.invariant c.statement-item.result c.loop-statement-test.true c.statement-item.is c.in_err-name_statement.ensures in
    rw (p.1, p.2) (as_seen _ (ap (λ xs. flat_map (statement_calls (chunk_in c.args.renamer.now) owner of) (map statement_of xs)) items.ensures.value) stopped)

pub loop-statement-preserved : goal.loop-statement-preserved
loop-statement-preserved c =
    let owner = c.args.owner in
    let of = module_of c.args.of.now in
    let items = c.deref-statement-items.result.now in
    turn_viewed statement_of (λ k. statement_calls k owner of) items c.loop-statement.invariant c.statement-item.result c.loop-statement-test.true c.statement-item.is c.in_ok-name_statement.ensures

pub returns : goal.returns
returns c =
    let owner = c.args.owner in
    let of = module_of c.args.of.now in
    let items = c.deref-statement-items in
    let over = done_viewed statement_of (λ k. statement_calls k owner of) items.result.now c.loop-statement.invariant c.loop-statement-test.false in
    as_seen _ (ap (λ xs. flat_map (statement_calls (chunk_in c.args.renamer.now) owner of) (map statement_of xs)) items.ensures.value) over
