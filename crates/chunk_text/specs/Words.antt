-- The words of a line, and what each can say. Assumes nothing.
use Rattle.std.specs.Prelude.{ℕ, Bool, true, false, cond, List, [], ◌∷◌, ◌++◌, Some, None, Option, Result, Ok, Err, ◌==◌}
use Rattle.std.specs.List.{find, slice_split}
use Rattle.std.specs.Option.{ok_or, option_map}
use Rattle.std.specs.Str.{bytes_eq}
use Rattle.keys.specs.declared.refs.SymbolRef.{SymbolRef}
use Rattle.line_text.specs.Cut.{until, past}
use Rattle.line_text.specs.Numerals.{numeral}
use Rattle.chunk_text.specs.declared.fault.Fault.{Fault}
use Rattle.chunk_text.specs.declared.fault.Fault.TheVariants.{NoSuchLine, WrongWords, NoNumber, NoSymbol, NoSuchWord, GivenTwice}
use Rattle.chunk_text.specs.Gives.{◌>>=◌}

-- a word is its bytes
abbrev pub Word : Type 0
Word = List ℕ

-- the words of a line stand between single spaces
abbrev pub words : List ℕ → List Word
words line = slice_split (λ b. b == 32) line

-- an empty word, which stands where a space is too many
abbrev pub is_nil : Word → Bool
is_nil [] = true
is_nil (b ∷ bs) = false

-- a number, in decimal
abbrev pub number_in : Word → Result ℕ Fault
number_in w = ok_or (numeral w) NoNumber

-- a symbol: the number of its module, a dot, and its own number
abbrev pub symbol_in : Word → Result SymbolRef Fault
symbol_in w = do
  owner ← ok_or (numeral (until 46 w)) NoSymbol
  symbol ← ok_or (numeral (past 46 w)) NoSymbol
  Ok (record { owner = owner; symbol = symbol })

-- whether a word is the first of two, or the second
abbrev pub either : Word → Word → Word → Result Bool Fault
either w first second = cond (bytes_eq w first) (Ok true) (cond (bytes_eq w second) (Ok false) (Err NoSuchWord))

-- that no word is left
abbrev pub no_word : List Word → Result (Unit {0}) Fault
no_word [] = Ok tt
no_word (w ∷ ws) = Err WrongWords

-- a mark stands alone
abbrev pub mark : List Word → Result Bool Fault
mark ws = no_word ws >>= λ _. Ok true

-- the one word that there is
abbrev pub only_word : List Word → Result Word Fault
only_word [] = Err WrongWords
only_word (w ∷ []) = Ok w
only_word (w ∷ v ∷ ws) = Err WrongWords

-- the one number that there is
abbrev pub only_number : List Word → Result ℕ Fault
only_number ws = only_word ws >>= number_in

-- what each word says, one after another
abbrev pub each : {A : Type 0} → (Word → Result A Fault) → List Word → Result (List A) Fault
each reads [] = Ok []
each reads (w ∷ ws) = do
  x ← reads w
  xs ← each reads ws
  Ok (x ∷ xs)

-- rows, and behind them what each word says
abbrev pub adding : {A : Type 0} → (Word → Result A Fault) → List A → List Word → Result (List A) Fault
adding reads rows ws = each reads ws >>= λ xs. Ok (rows ++ xs)

-- what can be given once: what is there, if anything, and what is given now
abbrev pub once : {A : Type 0} → Option A → A → Result (Option A) Fault
once None x = Ok (Some x)
once (Some y) x = Err GivenTwice

-- what a line is whose first word stands in a table of such words
abbrev pub find_verb : {V : Type 0} → List (Word × V) → Word → Result V Fault
find_verb ts w = ok_or (option_map (λ t. t.1) (find (λ t. bytes_eq t.0 w) ts)) NoSuchLine
