use Rattle.std.proofs.Common.{◌≡◌, ℕ, List, map, ap, sym, ◌∙◌}
use Rattle.std.specs.List.{flat_map}
use Rattle.std.proofs.lemmas.List.Folds.{flat_map-map}
use Rattle.std.proofs.lemmas.Result.{err_from_is_err_and}
use Rattle.chunk_tables.specs.Model.{Module}
use Rattle.chunk_tables.specs.View.{module_of, symbol_of}
use Rattle.chunk_tables.specs.declared.parts.Symbol.{Symbol}
use Rattle.policies.specs.InnerNames.{symbol_names}
use Rattle.policies.proofs.Notes.{noted_all, unnoted_more}
use Rattle.policies.proofs.inner_names.filling.note_module.Goals as goal

-- the names of the code's symbols are those of the model's
abbrev own : Module → Symbol → List (List ℕ)
own M y = symbol_names M (symbol_of y)

viewed : (M : Module) (ys zs : List Symbol) → ys ≡ zs → flat_map (own M) ys ≡ flat_map (symbol_names M) (map symbol_of zs)
viewed M ys zs e = ap (flat_map (own M)) e ∙ sym (flat_map-map (symbol_names M) symbol_of zs)

pub returns-in_err-note_symbol-clause-names : goal.returns-in_err-note_symbol-clause-names
returns-in_err-note_symbol-clause-names c =
    let M = module_of c.args.module.now in
    let p = err_from_is_err_and c.from_residual.result c.from_residual.ensures.1 in
    rw (p.1, p.2) (unnoted_more (own M) c.deref-symbol-items.result.now c.loop-symbol.symbol-index _ c.symbol-item.result c.loop-symbol-test.true c.symbol-item.is c.loop-symbol.invariant.noted _ _ _ (viewed M _ _ c.deref-symbol-items.ensures.value) (rw (← c.loop-symbol.invariant.room) c.in_err-note_symbol.ensures.names))

pub returns-clause-names : goal.returns-clause-names
returns-clause-names c =
    let M = module_of c.args.module.now in
    noted_all (own M) c.deref-symbol-items.result.now c.loop-symbol.symbol-index _ c.loop-symbol-test.false (viewed M _ _ c.deref-symbol-items.ensures.value) c.loop-symbol.invariant.noted
