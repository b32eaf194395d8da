use Rattle.std.proofs.Common.{[], ◌++◌, cond, map}
use Rattle.std.proofs.lemmas.Result.{err_from_is_err_and}
use Rattle.chunk_tables.specs.Fixed.{fixed_names, wrapper_parameters}
use Rattle.chunk_tables.specs.View.{module_of}
use Rattle.reservations.proofs.Chained.{ends, goes_on}
use Rattle.reservations.proofs.reserving.reserve_in.Goals as goal

pub returns-in_err-reserve_unresolved : goal.returns-in_err-reserve_unresolved
returns-in_err-reserve_unresolved c =
    let p = err_from_is_err_and c.from_residual.result c.from_residual.ensures.1 in
    let M = module_of c.args.of.now in
    rw (p.1, p.2) (ends _ _ _ (map (λ u. u.name) M.unresolved) (fixed_names c.args.format M ++ cond M.wrapped (wrapper_parameters M) []) c.in_err-reserve_unresolved.ensures)

pub returns-in_err-reserve_fixed : goal.returns-in_err-reserve_fixed
returns-in_err-reserve_fixed c =
    let p = err_from_is_err_and c.from_residual-in_err-reserve_fixed.result c.from_residual-in_err-reserve_fixed.ensures.1 in
    let M = module_of c.args.of.now in
    let f = c.args.format in
    let xs = cond M.wrapped (wrapper_parameters M) [] in
    rw (p.1, p.2) (goes_on _ _ _ _ (map (λ u. u.name) M.unresolved) (fixed_names f M ++ xs) c.in_ok-reserve_unresolved.ensures (ends _ _ _ (fixed_names f M) xs c.in_err-reserve_fixed.ensures))

pub returns : goal.returns
returns c =
    let M = module_of c.args.of.now in
    let f = c.args.format in
    let xs = cond M.wrapped (wrapper_parameters M) [] in
    goes_on _ _ _ _ (map (λ u. u.name) M.unresolved) (fixed_names f M ++ xs) c.in_ok-reserve_unresolved.ensures (goes_on _ _ _ _ (fixed_names f M) xs c.in_ok-reserve_fixed.ensures c.reserve_parameters.ensures)
