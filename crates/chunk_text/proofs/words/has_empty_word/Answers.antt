use Rattle.std.proofs.Common.{rules, tests, ◌∙◌}
use Rattle.std.proofs.lemmas.Iterator.{YieldsList-from_slice}
use Rattle.std.proofs.lemmas.Iterator.Search.{any_from_yields_List}
use Rattle.chunk_tables.proofs.Finds.{any_map}
use Rattle.chunk_text.specs.Words.{is_nil}
use Rattle.chunk_text.proofs.Found.{is_empty}
use Rattle.chunk_text.proofs.words.has_empty_word.Goals as goal

pub returns : goal.returns
returns c =
    any_from_yields_List (λ w. is_nil w.now) _ _ _ c.any.ensures.ran (YieldsList-from_slice c.args.words.now cc) (λ x b q k. search (rules, tests, is_empty)) ∙ any_map (λ w. w.now) is_nil c.args.words.now
