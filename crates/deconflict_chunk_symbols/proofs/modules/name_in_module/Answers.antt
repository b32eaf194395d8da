use Rattle.std.proofs.lemmas.Result.{err_from_is_err_and}
use Rattle.deconflict_chunk_symbols.proofs.Turns.{ends, goes_on}
use Rattle.deconflict_chunk_symbols.proofs.modules.name_in_module.Goals as goal

pub returns-in_err-name_this : goal.returns-in_err-name_this
returns-in_err-name_this c =
    let p = err_from_is_err_and c.from_residual-in_err-name_this.result c.from_residual-in_err-name_this.ensures.1 in
    rw (p.1, p.2) (goes_on c.in_ok-name_own.ensures (ends _ c.in_err-name_this.ensures))
