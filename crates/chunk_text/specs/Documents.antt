-- What the lines of a document say, one after another. Assumes nothing.
use Rattle.std.specs.Prelude.{ℕ, suc, cond, ◌++◌, List, [], ◌∷◌, length, Some, None, Option, Result, Ok, Err, ◌==◌}
use Rattle.std.specs.List.{list_any}
use Rattle.std.specs.Option.{unwrap_or}
use Rattle.session_memory.specs.declared.sizes.MemorySizes.{MemorySizes}
use Rattle.chunk_tables.specs.Lists.{maybe}
use Rattle.chunk_tables.specs.Model.{Module, Chunk}
use Rattle.line_text.specs.Cut.{trimmed}
use Rattle.chunk_text.specs.declared.fault.Fault.{Fault}
use Rattle.chunk_text.specs.declared.fault.Fault.TheVariants.{StraySpace, NoEnd}
use Rattle.chunk_text.specs.declared.verbs.InsideVerb.{InsideVerb}
use Rattle.chunk_text.specs.declared.verbs.InsideVerb.TheVariants.{Adds, End}
use Rattle.chunk_text.specs.declared.verbs.OutsideVerb.{OutsideVerb}
use Rattle.chunk_text.specs.declared.verbs.OutsideVerb.TheVariants as outside
use Rattle.chunk_text.specs.Gives.{◌>>=◌}
use Rattle.chunk_text.specs.Words.{Word, words, is_nil, no_word, only_word, only_number, once, find_verb}
use Rattle.chunk_text.specs.ChunkRows.{format_code, memory_row, module_row}
use Rattle.chunk_text.specs.ModuleLines.{module_line}
use Rattle.chunk_text.specs.ChunkLines.{chunk_line}
use Rattle.chunk_text.specs.Verbs.{outside_verbs, inside_verbs}

-- what has been read of a document: the format, the number of records and the room, where these were given; the module
-- whose end has not come yet; and the other tables
pub record Draft : Type 0 where
  pub format : Option ℕ
  pub records : Option ℕ
  pub memory : Option MemorySizes
  pub unended : Option Module
  pub chunk : Chunk

-- a line outside of a module
abbrev pub outside_line : Draft → OutsideVerb → List Word → Result Draft Fault
outside_line D outside.Format ws = only_word ws >>= λ w. once D.format (format_code w) >>= λ o. Ok (record D { format = o })
outside_line D outside.Records ws = only_number ws >>= λ n. once D.records n >>= λ o. Ok (record D { records = o })
outside_line D outside.Memory ws = memory_row ws >>= λ z. once D.memory z >>= λ o. Ok (record D { memory = o })
outside_line D outside.Module ws = module_row ws >>= λ M. Ok (record D { unended = Some M })
outside_line D (outside.List v) ws = chunk_line D.chunk v ws >>= λ C. Ok (record D { chunk = C })

-- a line in the module M
abbrev pub inside_line : Draft → Module → InsideVerb → List Word → Result Draft Fault
inside_line D M (Adds v) ws = module_line M v ws >>= λ N. Ok (record D { unended = Some N })
inside_line D M End ws = no_word ws >>= λ _. Ok (record D { unended = None; chunk = record (D.chunk) { modules = D.chunk.modules ++ M ∷ [] } })

-- a line by its first word and the others
abbrev pub spoken_line : Draft → Word → List Word → Result Draft Fault
spoken_line D w ws =
    maybe D.unended (find_verb outside_verbs w >>= λ v. outside_line D v ws) (λ M. find_verb inside_verbs w >>= λ v. inside_line D M v ws)

-- a line by its words, none of which is empty
abbrev pub worded_line : Draft → List Word → Result Draft Fault
worded_line D [] = Ok D
worded_line D (w ∷ ws) = cond (list_any is_nil (w ∷ ws)) (Err StraySpace) (spoken_line D w ws)

-- a line without the spaces in front; an empty one, and one that begins with a number sign, say nothing
abbrev pub trimmed_line : Draft → List ℕ → Result Draft Fault
trimmed_line D [] = Ok D
trimmed_line D (b ∷ bs) = cond (b == 35) (Ok D) (worded_line D (words (b ∷ bs)))

-- a line of the text
abbrev pub read_line : Draft → List ℕ → Result Draft Fault
read_line D l = trimmed_line D (trimmed l)

-- a fault, with the number of its line
abbrev pub numbered : {A : Type 0} → ℕ → Result A Fault → Result A (ℕ × Fault)
numbered k (Ok x) = Ok x
numbered k (Err f) = Err (k, f)

-- the lines from number k on
abbrev pub read_lines : ℕ → Draft → List (List ℕ) → Result Draft (ℕ × Fault)
read_lines k D [] = Ok D
read_lines k D (l ∷ ls) = numbered k (read_line D l) >>= λ E. read_lines (suc k) E ls

-- tables to which no line has added
abbrev pub empty_chunk : Chunk
empty_chunk = record {
  format = 0;
  records = 0;
  globals = [];
  runtime = None;
  modules = [];
  members = [];
  direct = [];
  entry_level = [];
  indirect = [];
  entry = [];
  used = [];
  synthetic = [];
  others = [];
}

-- a document of which nothing has been read
abbrev pub empty_draft : Draft
empty_draft = record { format = None; records = None; memory = None; unended = None; chunk = empty_chunk }

-- a chunk, and the memory that there is for its session, where the document gives it
pub record Document : Type 0 where
  pub chunk : Chunk
  pub memory : Option MemorySizes

-- a document whose modules have their ends; without a format its code is 0, and without a number of records there may be
-- 4,096
abbrev pub finished : ℕ → Draft → Result Document (ℕ × Fault)
finished k D =
    maybe D.unended
    (Ok (record { chunk = record (D.chunk) { format = unwrap_or D.format 0; records = unwrap_or D.records 4096 }; memory = D.memory }))
    (λ M. Err (k, NoEnd))

-- the document that the lines are; where the end of a module is missed, the fault has the number behind the last line
abbrev pub document : List (List ℕ) → Result Document (ℕ × Fault)
document ls = read_lines 0 empty_draft ls >>= finished (length ls)
