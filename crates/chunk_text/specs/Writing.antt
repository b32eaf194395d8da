-- The text of a document, line by line, in one order. Assumes nothing.
use Rattle.std.specs.Prelude.{ℕ, Bool, cond, List, [], ◌∷◌, ◌++◌, map, Option, decimal, codes}
use Rattle.std.specs.List.{flat_map, join_with_byte}
use Rattle.keys.specs.declared.refs.SymbolRef.{SymbolRef}
use Rattle.chunk_tables.specs.declared.chunk.EntrySymbol.{EntrySymbol}
use Rattle.chunk_tables.specs.declared.parts.ModuleKind.{ModuleKind}
use Rattle.chunk_tables.specs.declared.parts.ModuleKind.TheVariants.{Normal, External}
use Rattle.chunk_tables.specs.declared.parts.Reference.{Reference}
use Rattle.chunk_tables.specs.Formats.{of_code, word_of}
use Rattle.chunk_tables.specs.Lists.{maybe}
use Rattle.chunk_tables.specs.Model.{Symbol, Unresolved, Statement, Module, OtherChunk, Chunk}
use Rattle.session_memory.specs.declared.sizes.MemorySizes.{MemorySizes}
use Rattle.chunk_text.specs.Words.{Word}
use Rattle.chunk_text.specs.Documents.{Document}

-- a line without its end
abbrev pub Line : Type 0
Line = List ℕ

-- a line: the word that says what it is, and the other words, with single spaces between them
abbrev pub line : Word → List Word → Line
line verb ws = join_with_byte 32 (verb ∷ ws)

abbrev pub number_line : Word → ℕ → Line
number_line verb n = line verb (decimal n ∷ [])

abbrev pub mark_lines : Word → Bool → List Line
mark_lines verb b = cond b (line verb [] ∷ []) []

abbrev pub number_lines : Word → Option ℕ → List Line
number_lines verb o = maybe o [] (λ n. number_line verb n ∷ [])

-- a symbol: the number of its module, a dot, and its own number
abbrev pub symbol_word : SymbolRef → Word
symbol_word q = decimal q.owner ++ 46 ∷ decimal q.symbol

-- the format's word; where the format is out of range, a word that is no format's
abbrev pub format_word : ℕ → Word
format_word n = maybe (of_code n) (codes "-") word_of

abbrev pub kind_word : ModuleKind → Word
kind_word Normal = codes "normal"
kind_word (External n) = codes "external"

-- a symbol behind its key, where there is one
abbrev pub keyed : Word → Option SymbolRef → List Word
keyed key o = maybe o [] (λ q. key ∷ symbol_word q ∷ [])

abbrev pub symbol_words_of : Symbol → List Word
symbol_words_of y =
    y.name ∷ decimal y.scope ∷ cond y.bound (codes "bound") (codes "facade") ∷ (keyed (codes "link") y.link ++ keyed (codes "alias") y.alias)

abbrev pub symbol_line : Symbol → Line
symbol_line y = line (codes "symbol") (symbol_words_of y)

abbrev pub unresolved_line : Unresolved → Line
unresolved_line u = line (codes "unresolved") (u.name ∷ decimal u.scope ∷ [])

abbrev pub reference_line : Reference → Line
reference_line r =
    maybe r.resolved
    (line (codes "reference") (decimal r.scope ∷ decimal r.target ∷ []))
    (λ q. line (codes "member") (decimal r.scope ∷ decimal r.target ∷ symbol_word q ∷ []))

abbrev pub statement_words_of : Statement → List Word
statement_words_of s = cond s.kept (codes "kept") (codes "dropped") ∷ (cond s.external (codes "external" ∷ []) [] ++ map symbol_word s.declared)

abbrev pub statement_line : Statement → Line
statement_line s = line (codes "statement") (statement_words_of s)

-- the lines between a module's first and its end
abbrev pub inner_lines : Module → List Line
inner_lines M =
    mark_lines (codes "wrapped") M.wrapped
    ++ mark_lines (codes "dynamic_import") M.dynamic_import
    ++ mark_lines (codes "file_url") M.file_url
    ++ mark_lines (codes "uses_module") M.uses_module
    ++ mark_lines (codes "uses_module_or_exports") M.uses_either
    ++ map (number_line (codes "scope")) M.parents
    ++ map symbol_line M.symbols
    ++ number_lines (codes "hot") M.hot
    ++ number_lines (codes "this") M.this
    ++ number_lines (codes "default") M.default
    ++ map (number_line (codes "shim")) M.shims
    ++ map (number_line (codes "import")) M.imports
    ++ map unresolved_line M.unresolved
    ++ map reference_line M.references
    ++ map statement_line M.statements

abbrev pub module_lines : Module → List Line
module_lines M = line (codes "module") (kind_word M.kind ∷ decimal M.order ∷ []) ∷ (inner_lines M ++ line (codes "end") [] ∷ [])

abbrev pub memory_words_of : MemorySizes → List Word
memory_words_of z = decimal z.records ∷ decimal z.names ∷ decimal z.inner ∷ decimal z.marks ∷ decimal z.helpers ∷ []

abbrev pub memory_lines : Option MemorySizes → List Line
memory_lines o = maybe o [] (λ z. line (codes "memory") (memory_words_of z) ∷ [])

abbrev pub entry_words_of : EntrySymbol → List Word
entry_words_of e = symbol_word e.symbol ∷ cond e.came_from_cjs (codes "cjs" ∷ []) []

abbrev pub entry_line : EntrySymbol → Line
entry_line e = line (codes "entry") (entry_words_of e)

abbrev pub other_words_of : OtherChunk → List Word
other_words_of o = decimal o.number ∷ o.name ∷ map symbol_word o.imports

abbrev pub other_line : OtherChunk → Line
other_line o = line (codes "other") (other_words_of o)

-- a list of numbers, and one of symbols
abbrev pub numbers_line : Word → List ℕ → Line
numbers_line verb ns = line verb (map decimal ns)

abbrev pub symbols_line : Word → List SymbolRef → Line
symbols_line verb qs = line verb (map symbol_word qs)

-- the lines of a chunk's tables
abbrev pub chunk_lines : Chunk → List Line
chunk_lines C =
    (line (codes "globals") C.globals ∷ [])
    ++ number_lines (codes "runtime") C.runtime
    ++ flat_map module_lines C.modules
    ++ (numbers_line (codes "chunk") C.members ∷ [])
    ++ (numbers_line (codes "direct") C.direct ∷ [])
    ++ (numbers_line (codes "entry_externals") C.entry_level ∷ [])
    ++ (numbers_line (codes "indirect") C.indirect ∷ [])
    ++ map entry_line C.entry
    ++ (symbols_line (codes "used") C.used ∷ [])
    ++ (symbols_line (codes "synthetic") C.synthetic ∷ [])
    ++ map other_line C.others

-- the lines of a document
abbrev pub written : Document → List Line
written d =
    (line (codes "format") (format_word d.chunk.format ∷ []) ∷ [])
    ++ (number_line (codes "records") d.chunk.records ∷ [])
    ++ memory_lines d.memory
    ++ chunk_lines d.chunk
