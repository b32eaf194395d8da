use Rattle.std.proofs.lemmas.Result.{err_from_is_err_and}
use Rattle.deconflict_chunk_symbols.proofs.Turns.{named, declined}
use Rattle.deconflict_chunk_symbols.proofs.calls.name.Goals as goal

pub returns-in_err-add_symbol_in_root_scope : goal.returns-in_err-add_symbol_in_root_scope
returns-in_err-add_symbol_in_root_scope c =
    let call = c.in_err-add_symbol_in_root_scope in
    let p = err_from_is_err_and c.from_residual.result c.from_residual.ensures.1 in
    rw (p.1, p.2) (declined _ _ _ call.ensures.rules call.ensures.keeps)

pub returns : goal.returns
returns c =
    let call = c.in_ok-add_symbol_in_root_scope in
    named call.field-0 _ _ call.ensures.rules call.ensures.keeps
