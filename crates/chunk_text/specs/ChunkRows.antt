-- The rows that lines of a chunk say. Assumes nothing.
use Rattle.std.specs.Prelude.{ℕ, true, false, cond, List, [], ◌∷◌, None, Result, Ok, Err, codes}
use Rattle.std.specs.List.{find}
use Rattle.std.specs.Str.{bytes_eq}
use Rattle.chunk_tables.specs.declared.chunk.EntrySymbol.{EntrySymbol}
use Rattle.chunk_tables.specs.declared.format.Format.TheVariants.{Esm, Cjs, Iife, Umd}
use Rattle.chunk_tables.specs.declared.parts.ModuleKind.{ModuleKind}
use Rattle.chunk_tables.specs.declared.parts.ModuleKind.TheVariants.{Normal, External}
use Rattle.chunk_tables.specs.Formats.{word_of, code_of}
use Rattle.chunk_tables.specs.Lists.{maybe}
use Rattle.chunk_tables.specs.Model.{Module, OtherChunk}
use Rattle.session_memory.specs.declared.sizes.MemorySizes.{MemorySizes}
use Rattle.chunk_text.specs.declared.fault.Fault.{Fault}
use Rattle.chunk_text.specs.declared.fault.Fault.TheVariants.{WrongWords, NoSuchWord}
use Rattle.chunk_text.specs.Gives.{◌>>=◌}
use Rattle.chunk_text.specs.Words.{Word, number_in, symbol_in, either, each}

-- the code of the format whose option word it is; any other word is handed on as 0, which is no format's code
abbrev pub format_code : Word → ℕ
format_code w = maybe (find (λ f. bytes_eq w (word_of f)) (Esm ∷ Cjs ∷ Iife ∷ Umd ∷ [])) 0 code_of

-- for how many name records, given names, inner names, marks and helper names there is room
abbrev pub sizes_in : Word → Word → Word → Word → Word → Result MemorySizes Fault
sizes_in r n i m h = do
  records ← number_in r
  names ← number_in n
  inner ← number_in i
  marks ← number_in m
  helpers ← number_in h
  Ok (record { records = records; names = names; inner = inner; marks = marks; helpers = helpers })

abbrev pub memory_row : List Word → Result MemorySizes Fault
memory_row (r ∷ n ∷ i ∷ m ∷ h ∷ []) = sizes_in r n i m h
memory_row _ = Err WrongWords

-- the namespace of an external module is its first symbol
abbrev pub kind_in : Word → Result ModuleKind Fault
kind_in w = either w (codes "external") (codes "normal") >>= λ external. Ok (cond external (External 0) Normal)

-- a module that no line has added to
abbrev pub empty_module : ModuleKind → ℕ → Module
empty_module kind order = record {
  kind = kind;
  order = order;
  wrapped = false;
  hot = None;
  this = None;
  default = None;
  dynamic_import = false;
  file_url = false;
  uses_module = false;
  uses_either = false;
  parents = [];
  symbols = [];
  references = [];
  shims = [];
  imports = [];
  unresolved = [];
  statements = [];
}

-- how a module begins: whether it is external, and its execution order
abbrev pub module_row : List Word → Result Module Fault
module_row (k ∷ o ∷ []) = do
  kind ← kind_in k
  order ← number_in o
  Ok (empty_module kind order)
module_row _ = Err WrongWords

-- a symbol that the entry refers to, and whether it came from a CommonJS module
abbrev pub entry_row : List Word → Result EntrySymbol Fault
entry_row (q ∷ []) = symbol_in q >>= λ s. Ok (record { symbol = s; came_from_cjs = false })
entry_row (q ∷ w ∷ []) = do
  s ← symbol_in q
  cond (bytes_eq w (codes "cjs")) (Ok (record { symbol = s; came_from_cjs = true })) (Err NoSuchWord)
entry_row _ = Err WrongWords

-- another chunk: its number, its name, and what is imported from it
abbrev pub other_row : List Word → Result OtherChunk Fault
other_row (k ∷ n ∷ ws) = do
  number ← number_in k
  imports ← each symbol_in ws
  Ok (record { number = number; name = n; imports = imports })
other_row _ = Err WrongWords
