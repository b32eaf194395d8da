use Rattle.std.proofs.Common.{◌≡◌, ◌++◌, map, drop, vec_items}
use Rattle.chunk_text.proofs.words.add_names.Given as goal

abbrev pub invariant-loop-word : goal.invariant-loop-word
invariant-loop-word l = map vec_items l.names.items ++ map (λ w. w.now) (drop l.word-index l.words) ≡ map vec_items l.initial.names.items ++ map (λ w. w.now) l.words
