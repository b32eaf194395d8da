use Rattle.std.proofs.Common.{◌++◌, map, sym, ap, ◌∙◌, arith}
use Rattle.std.specs.List.{flat_map}
use Rattle.std.proofs.lemmas.List.{at_drop_all, append-nil}
use Rattle.documents.specs.View.{document_of}
use Rattle.documents.proofs.answers.answers_to.Goals as goal

pub returns : goal.returns
returns g c = λ says t.
    let out = c.loop-document.out.items in
    sym (append-nil out)
    ∙ ap (λ ds. out ++ ds) (sym (at_drop_all (λ ds. flat_map says (map document_of ds)) c.deref-document-items.result.now c.loop-document.document-index (omega arith)))
    ∙ c.loop-document.invariant says t
