use Rattle.std.proofs.Common.{rules, tests, vec_items, ◌∙◌}
use Rattle.std.proofs.lemmas.Iterator.{YieldsList-from_slice}
use Rattle.std.proofs.lemmas.Iterator.Search.{position_from_yields_List}
use Rattle.chunk_tables.specs.Bindings.{binds_in}
use Rattle.chunk_tables.specs.View.{symbol_of}
use Rattle.chunk_tables.proofs.Finds.{place_map}
use Rattle.chunk_tables.proofs.bindings.ModuleBindings.get_binding.Goals as goal

pub returns : goal.returns
returns c =
    let p = binds_in c.args.scope c.args.name.now in
    let ys = vec_items c.args.self.now.symbols in
    position_from_yields_List (λ y. p (symbol_of y)) _ _ _ c.position.ensures.ran (YieldsList-from_slice ys cc) (λ x b q k. search (rules, tests)) ∙ place_map symbol_of p ys
