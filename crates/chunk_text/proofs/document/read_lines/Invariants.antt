use Rattle.std.proofs.Common.{◌≡◌, map, drop}
use Rattle.chunk_text.specs.Documents.{read_lines}
use Rattle.chunk_text.specs.Seen.{draft_of}
use Rattle.chunk_text.proofs.document.read_lines.Given as goal

abbrev pub invariant-loop-number : goal.invariant-loop-number
invariant-loop-number l =
    read_lines l.number-counter (draft_of l.draft) (map (λ r. r.now) (drop l.number-counter l.lines)) ≡ read_lines 0 (draft_of l.initial.draft) (map (λ r. r.now) l.lines)
