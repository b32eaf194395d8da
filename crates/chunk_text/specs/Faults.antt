-- The words for each fault, and where a document has it. Assumes nothing.
use Rattle.std.specs.Prelude.{ℕ, List, codes}
use Rattle.chunk_text.specs.declared.fault.Fault.{Fault}
use Rattle.chunk_text.specs.declared.fault.DocumentError.{DocumentError}
use Rattle.chunk_text.specs.declared.fault.DocumentError.TheVariants.{NoMemory, Faulty}
use Rattle.chunk_text.specs.declared.fault.ReadError.{ReadError}
use Rattle.chunk_text.specs.declared.fault.ReadError.TheVariants.{Memory, Line}
use Rattle.chunk_text.specs.declared.fault.Fault.TheVariants.{StraySpace, NoSuchLine, WrongWords, NoNumber, NoSymbol, NoSuchWord, GivenTwice, NoEnd}

-- what is told of a line
abbrev pub words_of : Fault → List ℕ
words_of StraySpace = codes "a space too many"
words_of NoSuchLine = codes "no such line here"
words_of WrongWords = codes "too many words, or too few"
words_of NoNumber = codes "not a number of at most 32 bits"
words_of NoSymbol = codes "not a symbol, as M.S"
words_of NoSuchWord = codes "not a word that can stand here"
words_of GivenTwice = codes "given a second time"
words_of NoEnd = codes "a module without its end"

-- what it means for a document that its line k was not read
abbrev pub at_line : ℕ → ReadError → DocumentError
at_line k Memory = NoMemory
at_line k (Line f) = Faulty k f
