use Rattle.std.proofs.Common.{◌≡◌, ℕ, ◌+◌, ◌++◌, List, Bor, map, length, drop, get_or, [], ◌∷◌, ◌<◌, subst, ap, ◌∙◌, arith}
use Rattle.std.proofs.lemmas.List.{at_drop_more, length-map, map-append}
use Rattle.std.specs.Global.{Vec}
use Rattle.documents.specs.declared.document.DocumentLines.{DocumentLines}
use Rattle.std.proofs.lemmas.Grind.{common_steps}
use Rattle.documents.specs.Documents.{Line, documents, numbered, some_document, is_separator, parts}
use Rattle.documents.specs.View.{document_of}
use Rattle.documents.proofs.Parts.{spanned, spans_all, none_begins, one_begins}
use Rattle.documents.proofs.document.documents_of.Goals as goal
use Rattle.documents.proofs.document.documents_of.Goals.{then-not-is_empty+in_ok-push, else-not-is_empty}

abbrev seen : Bor (List (Bor (List ℕ))) → List Line
seen p = map (λ q. q.now) p.now

pub loop-part-init : goal.loop-part-init
loop-part-init c =
    let e : map seen c.deref-part-items.result.now ≡ parts (map (λ q. q.now) c.args.lines.now) = ap (map seen) c.deref-part-items.ensures.value ∙ c.in_ok-parts.ensures in
    let n : spanned (map seen c.deref-part-items.result.now) ≡ length c.args.lines.now + 1 = ap spanned e ∙ spans_all is_separator (map (λ q. q.now) c.args.lines.now) ∙ ap (λ k. k + 1) (length-map c.args.lines.now (λ q. q.now)) in
    (rw c.new-documents.ensures.items (ap (numbered 1) e), omega arith)

pub loop-part-preserved : goal.loop-part-preserved
loop-part-preserved c =
    let items = c.deref-part-items.result.now in
    let i = c.loop-part.part-index in
    let first = c.loop-part.first in
    let x : Bor (List (Bor (List ℕ))) = get_or items i (record { ref_ptr = (0, 0); now = [] }) in
    let h : i < length items = omega arith in
    let l : length (seen x) ≡ length x.now = length-map x.now (λ q. q.now) in
    let s : spanned (map seen (drop i items)) ≡ (length (seen x) + 1) + spanned (map seen (drop (i + 1) items)) = at_drop_more (λ ps. spanned (map seen ps)) items i _ h in
    let all = documents (map (λ q. q.now) c.args.lines.now) in
    let left = map seen (drop (i + 1) items) in
    let rest = numbered (first + (length x.now + 1)) left in
    let olds = map document_of c.loop-part.documents.items in
    let n : olds ++ (some_document first (seen x) ++ rest) ≡ all =
    subst (λ k. olds ++ (some_document first (seen x) ++ numbered (first + (k + 1)) left) ≡ all) l
    (subst (λ ds. olds ++ ds ≡ all) (at_drop_more (λ ps. numbered first (map seen ps)) items i _ h) c.loop-part.invariant.0) in
    elim c.if-not-is_empty.branch [
      | then-not-is_empty+in_ok-push w ↦
          let t = w.if-not-is_empty.true in
          let m : 0 < length (seen x) = grind (arith, common_steps) in
          let grown : c.if-not-is_empty.documents.items ≡ c.loop-part.documents.items ++ record { first = first; lines = x } ∷ [] = ap (λ (v : Vec DocumentLines). v.items) w.documents-is ∙ w.in_ok-push.ensures.items in (
            ap (λ ds. map document_of ds ++ rest) grown ∙ ap (λ ds. ds ++ rest) (map-append document_of c.loop-part.documents.items _) ∙ one_begins olds rest first (seen x) m n,
            omega arith,
          )
      | else-not-is_empty w ↦
          let t = w.if-not-is_empty.false in
          let m : length (seen x) ≡ 0 = grind (arith, common_steps) in (
            ap (λ (v : Vec DocumentLines). map document_of v.items ++ rest) w.documents-is ∙ none_begins olds rest first (seen x) m n,
            omega arith,
          )
    ]
