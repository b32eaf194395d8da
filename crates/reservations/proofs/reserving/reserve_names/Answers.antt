use Rattle.std.proofs.Common.{◌++◌}
use Rattle.std.proofs.lemmas.Result.{err_from_is_err_and}
use Rattle.names.specs.Words.{reserved_words}
use Rattle.chunk_tables.specs.View.{chunk_of}
use Rattle.reservations.specs.Reserved.{always_printed, printed_by, reserved_by_members}
use Rattle.reservations.proofs.Chained.{ends, goes_on}
use Rattle.reservations.proofs.reserving.reserve_names.Goals as goal

pub returns-in_err-reserve_globals : goal.returns-in_err-reserve_globals
returns-in_err-reserve_globals c =
    let p = err_from_is_err_and c.from_residual-in_err-reserve_globals.result c.from_residual-in_err-reserve_globals.ensures.1 in
    let C = chunk_of c.args.chunk.now in
    let f = c.args.format in
    let ys = always_printed ++ (printed_by f ++ reserved_by_members f C) in
    rw (p.1, p.2) (goes_on _ _ _ _ reserved_words (C.globals ++ ys) c.in_ok-reserve_words.ensures (ends _ _ _ C.globals ys c.in_err-reserve_globals.ensures))

pub returns-in_err-reserve_always_printed : goal.returns-in_err-reserve_always_printed
returns-in_err-reserve_always_printed c =
    let p = err_from_is_err_and c.from_residual-in_err-reserve_always_printed.result c.from_residual-in_err-reserve_always_printed.ensures.1 in
    let C = chunk_of c.args.chunk.now in
    let f = c.args.format in
    let zs = printed_by f ++ reserved_by_members f C in
    rw (p.1, p.2) (goes_on _ _ _ _ reserved_words (C.globals ++ (always_printed ++ zs)) c.in_ok-reserve_words.ensures
    (goes_on _ _ _ _ C.globals (always_printed ++ zs) c.in_ok-reserve_globals.ensures (ends _ _ _ always_printed zs c.in_err-reserve_always_printed.ensures)))

pub returns-in_err-reserve_printed : goal.returns-in_err-reserve_printed
returns-in_err-reserve_printed c =
    let p = err_from_is_err_and c.from_residual-in_err-reserve_printed.result c.from_residual-in_err-reserve_printed.ensures.1 in
    let C = chunk_of c.args.chunk.now in
    let f = c.args.format in
    let ms = reserved_by_members f C in
    rw (p.1, p.2) (goes_on _ _ _ _ reserved_words (C.globals ++ (always_printed ++ (printed_by f ++ ms))) c.in_ok-reserve_words.ensures
    (goes_on _ _ _ _ C.globals (always_printed ++ (printed_by f ++ ms)) c.in_ok-reserve_globals.ensures
    (goes_on _ _ _ _ always_printed (printed_by f ++ ms) c.in_ok-reserve_always_printed.ensures (ends _ _ _ (printed_by f) ms c.in_err-reserve_printed.ensures))))

pub returns : goal.returns
returns c =
    let C = chunk_of c.args.chunk.now in
    let f = c.args.format in
    let ms = reserved_by_members f C in
    goes_on _ _ _ _ reserved_words (C.globals ++ (always_printed ++ (printed_by f ++ ms))) c.in_ok-reserve_words.ensures
    (goes_on _ _ _ _ C.globals (always_printed ++ (printed_by f ++ ms)) c.in_ok-reserve_globals.ensures
    (goes_on _ _ _ _ always_printed (printed_by f ++ ms) c.in_ok-reserve_always_printed.ensures (goes_on _ _ _ _ (printed_by f) ms c.in_ok-reserve_printed.ensures c.reserve_members.ensures)))
