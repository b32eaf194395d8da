use Rattle.std.proofs.Common.{◌≡◌, ◌+◌, ◌++◌, map, length, drop}
use Rattle.documents.specs.Documents.{documents, numbered}
use Rattle.documents.specs.View.{document_of}
use Rattle.documents.proofs.Parts.{spanned}
use Rattle.documents.proofs.document.documents_of.Given as goal

-- the documents so far and those of the parts that are left are all of them, and the parts that are left are as long as
-- the lines behind those that were passed
abbrev pub invariant-loop-part : goal.invariant-loop-part
invariant-loop-part l =
    let left = map (λ p. map (λ q. q.now) p.now) (drop l.part-index l.part-items) in
    (map document_of l.documents.items ++ numbered l.first left ≡ documents (map (λ q. q.now) l.lines))
    × (l.first + spanned left ≡ length l.lines + 2)
