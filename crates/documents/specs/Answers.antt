-- What is answered to the documents of a text. Assumes nothing.
use Rattle.std.specs.Prelude.{◌≡◌, ℕ, List, ◌++◌, flat_map, Result, IfOk}
use Rattle.std.specs.Borrow.{MutBor}
use Rattle.std.specs.Global.{Vec}
use Rattle.std.specs.declared.alloc.AllocError.{AllocError}
use Rattle.documents.specs.Documents.{Document, lines, documents}
use Rattle.documents.specs.View.{document_of}
use Rattle.documents.specs.declared.document.DocumentLines.{DocumentLines}

-- wherever an answer is granted, what says gives of the document stands behind what was there
abbrev pub Says : (DocumentLines → MutBor (Vec ℕ) → Result (Unit {0}) AllocError → MutBor (Vec ℕ) → Type 0) → (Document → List ℕ) → Type 0
Says answer says = (d : DocumentLines) (was is : MutBor (Vec ℕ)) (r : Result (Unit {0}) AllocError) → answer d was r is → IfOk r (λ _. is.now.items ≡ was.now.items ++ says (document_of d))

-- what is said of each document of a text, one behind another
abbrev pub answers : (Document → List ℕ) → List ℕ → List ℕ
answers says text = flat_map says (documents (lines text))
