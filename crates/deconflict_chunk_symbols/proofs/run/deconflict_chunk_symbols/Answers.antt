use Rattle.std.proofs.lemmas.Result.{err_from_is_err_and}
use Rattle.deconflict_chunk_symbols.specs.Run.{namespace_calls, entry_calls, used_calls, members_calls, synthetic_calls, import_calls}
use Rattle.deconflict_chunk_symbols.proofs.Drawings.{ends_run, draws_on}
use Rattle.deconflict_chunk_symbols.proofs.Sections.{from_entry, from_used, from_members, from_synthetic}
use Rattle.deconflict_chunk_symbols.proofs.Turns.{ends, next}
use Rattle.deconflict_chunk_symbols.proofs.run.deconflict_chunk_symbols.Goals as goal

pub returns-in_err-name_external_namespaces : goal.returns-in_err-name_external_namespaces
returns-in_err-name_external_namespaces c =
    let p = err_from_is_err_and c.from_residual.result c.from_residual.ensures.1 in
    rw (p.1, p.2) (ends_run (ends _ c.in_err-name_external_namespaces.ensures))

pub returns-in_err-name_entry_symbols : goal.returns-in_err-name_entry_symbols
returns-in_err-name_entry_symbols c =
    let p = err_from_is_err_and c.from_residual-in_err-name_entry_symbols.result c.from_residual-in_err-name_entry_symbols.ensures.1 in
    rw (p.1, p.2) (ends_run (next namespace_calls from_entry c.in_ok-name_external_namespaces.ensures (ends _ c.in_err-name_entry_symbols.ensures)))

pub returns-in_err-name_used_external_symbols : goal.returns-in_err-name_used_external_symbols
returns-in_err-name_used_external_symbols c =
    let p = err_from_is_err_and c.from_residual-in_err-name_used_external_symbols.result c.from_residual-in_err-name_used_external_symbols.ensures.1 in
    rw (p.1, p.2) (ends_run (next namespace_calls from_entry c.in_ok-name_external_namespaces.ensures (next entry_calls from_used c.in_ok-name_entry_symbols.ensures (ends _ c.in_err-name_used_external_symbols.ensures))))

pub returns-in_err-name_modules : goal.returns-in_err-name_modules
returns-in_err-name_modules c =
    let p = err_from_is_err_and c.from_residual-in_err-name_modules.result c.from_residual-in_err-name_modules.ensures.1 in
    rw (p.1, p.2) (ends_run (next namespace_calls from_entry c.in_ok-name_external_namespaces.ensures (next entry_calls from_used c.in_ok-name_entry_symbols.ensures (next used_calls from_members c.in_ok-name_used_external_symbols.ensures (ends _ c.in_err-name_modules.ensures)))))

pub returns-in_err-name_synthetic_symbols : goal.returns-in_err-name_synthetic_symbols
returns-in_err-name_synthetic_symbols c =
    let p = err_from_is_err_and c.from_residual-in_err-name_synthetic_symbols.result c.from_residual-in_err-name_synthetic_symbols.ensures.1 in
    rw (p.1, p.2) (ends_run (next namespace_calls from_entry c.in_ok-name_external_namespaces.ensures (next entry_calls from_used c.in_ok-name_entry_symbols.ensures (next used_calls from_members c.in_ok-name_used_external_symbols.ensures (next members_calls from_synthetic c.in_ok-name_modules.ensures (ends _ c.in_err-name_synthetic_symbols.ensures))))))

pub returns-in_err-name_imports : goal.returns-in_err-name_imports
returns-in_err-name_imports c =
    let p = err_from_is_err_and c.from_residual-in_err-name_imports.result c.from_residual-in_err-name_imports.ensures.1 in
    rw (p.1, p.2) (ends_run (next namespace_calls from_entry c.in_ok-name_external_namespaces.ensures (next entry_calls from_used c.in_ok-name_entry_symbols.ensures (next used_calls from_members c.in_ok-name_used_external_symbols.ensures (next members_calls from_synthetic c.in_ok-name_modules.ensures (next synthetic_calls import_calls c.in_ok-name_synthetic_symbols.ensures c.in_err-name_imports.ensures))))))

pub returns : goal.returns
returns c = draws_on (next namespace_calls from_entry c.in_ok-name_external_namespaces.ensures (next entry_calls from_used c.in_ok-name_entry_symbols.ensures (next used_calls from_members c.in_ok-name_used_external_symbols.ensures (next members_calls from_synthetic c.in_ok-name_modules.ensures (next synthetic_calls import_calls c.in_ok-name_synthetic_symbols.ensures c.in_ok-name_imports.ensures))))) c.create_require_names.ensures
