use Rattle.std.proofs.Common.{rules, tests, ◌∙◌}
use Rattle.std.specs.Str.{bytes_eq}
use Rattle.std.proofs.lemmas.Iterator.{YieldsList-from_slice}
use Rattle.std.proofs.lemmas.Iterator.Search.{find_from_yields_List}
use Rattle.chunk_text.proofs.Found.{said}
use Rattle.chunk_text.proofs.words.find_verb.Goals as goal

pub returns : goal.returns
returns g c =
    let w = c.args.word.now in
    let e = find_from_yields_List (λ t. bytes_eq t.0.now w) _ _ c.find.result c.find.ensures.ran (YieldsList-from_slice c.args.verbs.now cc) (λ x b q k. search (rules, tests)) in
    c.ok_or.ensures.value ∙ said c.args.verbs.now w c.find.result c.map.result e (search rules)
