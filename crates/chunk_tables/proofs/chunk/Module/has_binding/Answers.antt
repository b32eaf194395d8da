use Rattle.std.proofs.Common.{rules, tests, vec_items, ◌∙◌}
use Rattle.std.proofs.lemmas.Iterator.{YieldsList-from_slice}
use Rattle.std.proofs.lemmas.Iterator.Search.{any_from_yields_List}
use Rattle.chunk_tables.specs.Bindings.{binds}
use Rattle.chunk_tables.specs.View.{symbol_of}
use Rattle.chunk_tables.proofs.Finds.{any_map}
use Rattle.chunk_tables.proofs.chunk.Module.has_binding.Goals as goal

pub returns : goal.returns
returns c =
    let p = binds c.args.name.now in
    let ys = vec_items c.args.self.now.symbols in
    any_from_yields_List (λ y. p (symbol_of y)) _ _ _ c.any.ensures.ran (YieldsList-from_slice ys cc) (λ x b q k. search (rules, tests)) ∙ any_map symbol_of p ys
