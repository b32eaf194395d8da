use Rattle.std.proofs.Common.{◌<◌, ap, ◌∙◌, subst, sym}
use Rattle.std.specs.List.{slice_get}
use Rattle.std.proofs.lemmas.List.{length-map}
use Rattle.chunk_tables.specs.View.{chunk_of, module_of, symbol_of}
use Rattle.deconflict_chunk_symbols.proofs.Numbers.{few}
use Rattle.deconflict_chunk_symbols.proofs.externals.symbol_count.Goals as goal

pub overflow_cast-result : goal.overflow_cast-result
overflow_cast-result c =
    let checked = c.args.renamer.now.chunk.now in
    let there = c.in-Some.ensures ∙ ap (λ k. slice_get (chunk_of k).modules c.args.owner) c.chunk.ensures in
    let symbols = c.in-Some.module.now.symbols in
    let count = c.len.ensures ∙ symbols.ok.0 ∙ sym (length-map symbols.items symbol_of) in
    record { fits = subst (λ n. n < 4294967296) (sym count) (few (chunk_of checked.chunk) checked.sound c.args.owner (module_of c.in-Some.module.now) there) }
