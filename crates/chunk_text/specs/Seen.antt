-- Drafts and documents as values, without where they lie in memory. Assumes nothing.
use Rattle.std.specs.Option.{option_map}
use Rattle.chunk_tables.specs.View.{module_of, chunk_of}
use Rattle.chunk_text.specs.declared.document.Document as documents
use Rattle.chunk_text.specs.declared.draft.Draft as drafts
use Rattle.chunk_text.specs.Documents.{Draft, Document}

abbrev pub draft_of : drafts.Draft → Draft
draft_of d = record {
  format = d.format;
  records = d.records;
  memory = d.memory;
  unended = option_map module_of d.unended;
  chunk = chunk_of d.chunk;
}

abbrev pub document_of : documents.Document → Document
document_of d = record { chunk = chunk_of d.chunk; memory = d.memory }
