-- The rows that lines of a module say. Assumes nothing.
use Rattle.std.specs.Prelude.{ℕ, Bool, true, false, cond, ◌&&◌, List, [], ◌∷◌, Some, None, Option, Result, Ok, Err, codes}
use Rattle.std.specs.Str.{bytes_eq}
use Rattle.keys.specs.declared.refs.SymbolRef.{SymbolRef}
use Rattle.chunk_tables.specs.declared.parts.Reference.{Reference}
use Rattle.chunk_tables.specs.Model.{Symbol, Unresolved, Statement}
use Rattle.chunk_text.specs.declared.fault.Fault.{Fault}
use Rattle.chunk_text.specs.declared.fault.Fault.TheVariants.{WrongWords}
use Rattle.chunk_text.specs.Gives.{◌>>=◌}
use Rattle.chunk_text.specs.Words.{Word, number_in, symbol_in, either, no_word, only_word, each}

-- there is no row yet
abbrev pub is_first : {A : Type 0} → List A → Bool
is_first [] = true
is_first (x ∷ xs) = false

-- a scope: the number of its parent; the first one, the root, can have a dash in its place
abbrev pub scope_row : Bool → List Word → Result ℕ Fault
scope_row first ws = do
  w ← only_word ws
  cond (first && bytes_eq w (codes "-")) (Ok 0) (number_in w)

-- the symbol behind a key, where the words begin with the key, and the words that are left
abbrev pub behind : Word → List Word → Result (Option SymbolRef × List Word) Fault
behind key [] = Ok (None, [])
behind key (k ∷ []) = Ok (None, k ∷ [])
behind key (k ∷ q ∷ ws) = cond (bytes_eq k key) (symbol_in q >>= λ s. Ok (Some s, ws)) (Ok (None, k ∷ q ∷ ws))

-- a link, an alias, both in this order, or neither
abbrev pub links_in : List Word → Result (Option SymbolRef × Option SymbolRef) Fault
links_in ws = do
  link ← behind (codes "link") ws
  alias ← behind (codes "alias") link.1
  none ← no_word alias.1
  Ok (link.0, alias.0)

-- a symbol: its name, its scope, whether it is bound, its link and its alias
abbrev pub symbol_row : List Word → Result Symbol Fault
symbol_row [] = Err WrongWords
symbol_row (n ∷ []) = Err WrongWords
symbol_row (n ∷ s ∷ []) = Err WrongWords
symbol_row (n ∷ s ∷ k ∷ ws) = do
  scope ← number_in s
  bound ← either k (codes "bound") (codes "facade")
  links ← links_in ws
  Ok (record { name = n; scope = scope; bound = bound; link = links.0; alias = links.1 })

-- an unresolved name, and the scope in which it stands
abbrev pub unresolved_row : List Word → Result Unresolved Fault
unresolved_row [] = Err WrongWords
unresolved_row (n ∷ []) = Err WrongWords
unresolved_row (n ∷ s ∷ []) = do
  scope ← number_in s
  Ok (record { name = n; scope = scope })
unresolved_row (n ∷ s ∷ w ∷ ws) = Err WrongWords

-- a reference: its scope and its target
abbrev pub reference_row : List Word → Result Reference Fault
reference_row [] = Err WrongWords
reference_row (s ∷ []) = Err WrongWords
reference_row (s ∷ t ∷ []) = do
  scope ← number_in s
  target ← number_in t
  Ok (record { scope = scope; target = target; resolved = None })
reference_row (s ∷ t ∷ w ∷ ws) = Err WrongWords

-- a member reference: its scope, its target, and the symbol that it is resolved to, if there is one
abbrev pub member_row : List Word → Result Reference Fault
member_row [] = Err WrongWords
member_row (s ∷ []) = Err WrongWords
member_row (s ∷ t ∷ []) = reference_row (s ∷ t ∷ [])
member_row (s ∷ t ∷ q ∷ []) = do
  scope ← number_in s
  target ← number_in t
  resolved ← symbol_in q
  Ok (record { scope = scope; target = target; resolved = Some resolved })
member_row (s ∷ t ∷ q ∷ w ∷ ws) = Err WrongWords

-- whether the mark of an import from an external module stands in front, and what stands behind it
abbrev pub is_external : List Word → Bool
is_external [] = false
is_external (w ∷ ws) = bytes_eq w (codes "external")

-- the words without that mark
abbrev pub past_mark : List Word → List Word
past_mark [] = []
past_mark (w ∷ ws) = cond (bytes_eq w (codes "external")) ws (w ∷ ws)

-- a statement: whether it is kept, whether it imports from an external module, and what it declares
abbrev pub statement_row : List Word → Result Statement Fault
statement_row [] = Err WrongWords
statement_row (k ∷ ws) = do
  kept ← either k (codes "kept") (codes "dropped")
  declared ← each symbol_in (past_mark ws)
  Ok (record { kept = kept; external = is_external ws; declared = declared })
