-- The lines that calls of a session answer. Assumes nothing.
use Rattle.std.specs.Prelude.{ℕ, List, ◌++◌, codes, decimal, Some, None, Option, Ok, Err, Result}
use Rattle.names.specs.Spelt.{spelt}
use Rattle.names.specs.declared.name.Name.{Name}
use Rattle.names.specs.declared.refusal.Refusal.{Refusal}
use Rattle.keys.specs.declared.refs.SymbolRef.{SymbolRef}
use Rattle.conflict_resolver.specs.declared.resolver.search.Resolved.{Resolved}
use Rattle.session_memory.specs.declared.sizes.MemorySizes.{MemorySizes}
use Rattle.renamer.specs.declared.renamer.naming.TopLevelName.{TopLevelName}
use Rattle.renamer.specs.declared.renamer.naming.TopLevelName.TheVariants.{Given, Already}
use Rattle.answer_lines.specs.Lines.{line, refused_line}
use Rattle.documents.specs.Searches.{found_line}

-- a symbol: the number of its module, a dot, and its own
abbrev pub symbol_text : SymbolRef → List ℕ
symbol_text s = decimal s.owner ++ codes "." ++ decimal s.symbol

-- a call, and the text that it is about
abbrev pub about_text : List ℕ → List ℕ → List ℕ
about_text verb text = verb ++ codes " " ++ text ++ codes " "

-- a root that is to be named
abbrev pub about_root : SymbolRef → List ℕ
about_root s = codes "root " ++ symbol_text s ++ codes " "

-- what a search answers
abbrev pub search_end : Result Resolved Refusal → List ℕ
search_end (Ok found) = found_line found
search_end (Err refusal) = refused_line refusal

-- what naming a root answers
abbrev pub root_end : Result TopLevelName Refusal → List ℕ
root_end (Ok (Given found)) = found_line found
root_end (Ok (Already name)) = line (codes "has " ++ spelt name)
root_end (Err refusal) = refused_line refusal

-- the name that a symbol is printed as, where it has one
abbrev pub printed_line : SymbolRef → Option Name → List ℕ
printed_line s (Some name) = line (codes "printed " ++ symbol_text s ++ codes " " ++ spelt name)
printed_line s None = line (codes "unnamed " ++ symbol_text s)

-- the sizes of a memory
abbrev pub memory_line : MemorySizes → List ℕ
memory_line z = line (codes "memory " ++ decimal z.records ++ codes " " ++ decimal z.names ++ codes " " ++ decimal z.inner ++ codes " " ++ decimal z.marks ++ codes " " ++ decimal z.helpers)
