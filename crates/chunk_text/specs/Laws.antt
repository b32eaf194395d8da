-- What writing and reading have to do with each other. Assumes nothing.
use Rattle.std.specs.Prelude.{◌≡◌, Ok}
use Rattle.chunk_text.specs.Documents.{Document, document}
use Rattle.chunk_text.specs.Writable.{Writable}
use Rattle.chunk_text.specs.Writing.{written}

-- the reader makes of a chunk's text that chunk, for each chunk that has a text
abbrev pub WrittenIsRead : Type 0
WrittenIsRead = (d : Document) → Writable d → document (written d) ≡ Ok d
