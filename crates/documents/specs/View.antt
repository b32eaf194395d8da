-- A document's lines, without where they lie in memory. Assumes nothing.
use Rattle.std.specs.Prelude.{map}
use Rattle.documents.specs.Documents.{Document}
use Rattle.documents.specs.declared.document.DocumentLines.{DocumentLines}

abbrev pub document_of : DocumentLines → Document
document_of d = record { first = d.first; lines = map (λ l. l.now) d.lines.now }
