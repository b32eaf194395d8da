-- A whole document, read line by line. Assumes nothing.
use Rattle.std.proofs.Common.{◌≡◌, ℕ, ◌≤◌, [], ◌∷◌, length, Some, None, Option, Ok, codes, decimal, IfSome, refl, ap}
use Rattle.session_memory.specs.declared.sizes.MemorySizes.{MemorySizes}
use Rattle.chunk_text.specs.Gives.{◌>>=◌}
use Rattle.chunk_text.specs.Documents.{Draft, Document, empty_draft, empty_chunk, finished, document}
use Rattle.chunk_text.specs.Writable.{IsNumber, WritableSizes, Writable}
use Rattle.chunk_text.specs.Writing.{line, number_line, format_word, memory_words_of, memory_lines, written}
use Rattle.chunk_text.proofs.ChunkRows.{format_again, memory_words, memory_again}
use Rattle.chunk_text.proofs.Chunks.{tables}
use Rattle.chunk_text.proofs.Digits.{decimal_word, number_again}
use Rattle.chunk_text.proofs.Lines.{Leads, none, one, ◌then◌}

-- a draft with what the lines in front of the tables give
abbrev begun : Option ℕ → Option ℕ → Option MemorySizes → Draft
begun f r z = record { format = f; records = r; memory = z; unended = None; chunk = empty_chunk }

format : (n : ℕ) → n ≤ 4 → Leads empty_draft (line (codes "format") (format_word n ∷ []) ∷ []) (begun (Some n) None None)
format n h = one (codes "format") (format_word n ∷ []) refl ((format_again n h).0, tt) (ap (λ m. Ok (begun (Some m) None None)) (format_again n h).1)

records : (f : Option ℕ) (n : ℕ) → IsNumber n → Leads (begun f None None) (number_line (codes "records") n ∷ []) (begun f (Some n) None)
records f n h = one (codes "records") (decimal n ∷ []) refl (decimal_word n h, tt) (ap (λ r. r >>= λ n. Ok (begun f (Some n) None)) (number_again n h))

memory : (f r : Option ℕ) (o : Option MemorySizes) → IfSome o WritableSizes → Leads (begun f r None) (memory_lines o) (begun f r o)
memory f r None h = none
memory f r (Some z) h = one (codes "memory") (memory_words_of z) refl (memory_words z h) (ap (λ s. s >>= λ z. Ok (begun f r (Some z))) (memory_again z h))

all_lines : (d : Document) → Writable d
    → Leads empty_draft (written d) (record { format = Some d.chunk.format; records = Some d.chunk.records; memory = d.memory; unended = None; chunk = record (d.chunk) { format = 0; records = 0 } })
all_lines d h =
    format d.chunk.format h.chunk.format
    then records (Some d.chunk.format) d.chunk.records h.chunk.records
    then memory (Some d.chunk.format) (Some d.chunk.records) d.memory h.memory
    then tables (begun (Some d.chunk.format) (Some d.chunk.records) d.memory) d.chunk h.chunk

-- what is written is read again
pub read_again : (d : Document) → Writable d → document (written d) ≡ Ok d
read_again d h = ap (λ r. r >>= finished (length (written d))) ((all_lines d h).read 0)
