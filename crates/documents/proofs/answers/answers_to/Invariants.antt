use Rattle.std.proofs.Common.{◌≡◌, ℕ, List, ◌++◌, map, drop}
use Rattle.std.specs.List.{flat_map}
use Rattle.documents.specs.Answers.{Says, answers}
use Rattle.documents.specs.Documents.{Document}
use Rattle.documents.specs.View.{document_of}
use Rattle.documents.proofs.answers.answers_to.Given as goal

-- what was answered, and the answers to the documents that are left, are the answers to all
abbrev pub invariant-loop-document : goal.invariant-loop-document
invariant-loop-document g l =
    (says : Document → List ℕ) → Says (goal.F-post g l.answer l.heap) says
    → l.out.items ++ flat_map says (map document_of (drop l.document-index l.document-items)) ≡ answers says l.text
