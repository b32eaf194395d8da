use Rattle.std.proofs.Common.{◌≡◌, ℕ, List, Result, map, drop}
use Rattle.chunk_text.specs.declared.fault.Fault.{Fault}
use Rattle.chunk_text.specs.Gives.{Says}
use Rattle.chunk_text.specs.Words.{adding}
use Rattle.chunk_text.proofs.words.add_each.Given as goal

abbrev pub invariant-loop-word : goal.invariant-loop-word
invariant-loop-word g l =
    (says : List ℕ → Result _ Fault) → Says (goal.R-post g l.read) says → adding says l.rows.items (map (λ w. w.now) (drop l.word-index l.words)) ≡ adding says l.initial.rows.items (map (λ w. w.now) l.words)
