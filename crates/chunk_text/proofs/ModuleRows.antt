-- The words of rows, and what they are read as. Assumes nothing.
use Rattle.std.proofs.Common.{◌≡◌, ℕ, Bool, true, false, cond, List, [], ◌∷◌, ◌++◌, map, Some, None, Option, Result, Ok, codes, decimal, ◌==◌, All, IfSome, refl, ap, ◌∙◌}
use Rattle.std.specs.List.{list_any}
use Rattle.std.specs.Str.{bytes_eq}
use Rattle.std.proofs.lemmas.Bool.{or_parts}
use Rattle.std.proofs.lemmas.List.Elements.{All-head, All-tail}
use Rattle.std.proofs.lemmas.List.Folds.{list_any-append}
use Rattle.keys.specs.declared.refs.SymbolRef.{SymbolRef}
use Rattle.chunk_tables.specs.Model.{Symbol, Unresolved, Statement}
use Rattle.chunk_text.specs.declared.fault.Fault.{Fault}
use Rattle.chunk_text.specs.Gives.{◌>>=◌}
use Rattle.chunk_text.specs.Words.{Word, is_nil, number_in, symbol_in, either, each, adding}
use Rattle.chunk_text.specs.Rows.{scope_row, links_in, symbol_row, unresolved_row, reference_row, member_row, statement_row, is_external, past_mark}
use Rattle.chunk_text.specs.Writable.{IsNumber, IsWord, IsSymbol, WritableSymbol, WritableUnresolved}
use Rattle.chunk_text.specs.Writing.{symbol_word, keyed, symbol_words_of, statement_words_of}
use Rattle.chunk_text.proofs.Digits.{absent, decimal_word, number_again}
use Rattle.chunk_text.proofs.Lines.{AreWords}
use Rattle.chunk_text.proofs.Symbols.{symbol_again, symbol_is_word}

-- a word without the byte c is no word that begins with c
differs : (w : Word) (c : ℕ) (cs : Word) → list_any (λ b. b == c) w ≡ false → bytes_eq w (c ∷ cs) ≡ false
differs [] c cs h = refl
differs (b ∷ w) c cs h = rw ((or_parts (b == c) _ h).0)

scope_read : (first : Bool) (w : Word) (p : ℕ) → bytes_eq w (codes "-") ≡ false → number_in w ≡ Ok p → scope_row first (w ∷ []) ≡ Ok p
scope_read true w p d e = rw (d, e)
scope_read false w p d e = e

pub scope_again : (first : Bool) (p : ℕ) → IsNumber p → scope_row first (decimal p ∷ []) ≡ Ok p
scope_again first p h = scope_read first (decimal p) p (differs (decimal p) 45 [] (absent 45 p refl h)) (number_again p h)

-- what each word says, where each row has a word
pub each_again : {A : Type 0} (reads : Word → Result A Fault) (word : A → Word) (P : A → Type 0) → ((x : A) → P x → reads (word x) ≡ Ok x) → (xs : List A) → All P xs → each reads (map word xs) ≡ Ok xs
each_again reads word P again [] h = refl
each_again reads word P again (x ∷ xs) h = rw (again x (All-head P x xs h), each_again reads word P again xs (All-tail P x xs h))

-- the words of a list that is empty so far
pub adding_again : {A : Type 0} (reads : Word → Result A Fault) (word : A → Word) (P : A → Type 0) → ((x : A) → P x → reads (word x) ≡ Ok x) → (xs : List A) → All P xs → adding reads [] (map word xs) ≡ Ok xs
adding_again reads word P again xs h = ap (λ r. r >>= λ xs. Ok xs) (each_again reads word P again xs h)

pub are_words : {A : Type 0} (word : A → Word) (P : A → Type 0) → ((x : A) → P x → IsWord (word x)) → (xs : List A) → All P xs → AreWords (map word xs)
are_words word P each [] h = tt
are_words word P each (x ∷ xs) h = (each x (All-head P x xs h), are_words word P each xs (All-tail P x xs h))

either_read : (v w : Word) (b : Bool) → bytes_eq w v ≡ false → bytes_eq v v ≡ true → bytes_eq w w ≡ true → either (cond b v w) v w ≡ Ok b
either_read v w true d e f = rw e
either_read v w false d e f = rw (d, f)

-- links and aliases
link_read : (p : Word) (l : SymbolRef) → symbol_in p ≡ Ok l → links_in (codes "link" ∷ p ∷ []) ≡ Ok (Some l, None)
link_read p l e = rw e

alias_read : (p : Word) (a : SymbolRef) → symbol_in p ≡ Ok a → links_in (codes "alias" ∷ p ∷ []) ≡ Ok (None, Some a)
alias_read p a e = rw e

both_read : (p q : Word) (l a : SymbolRef) → symbol_in p ≡ Ok l → symbol_in q ≡ Ok a → links_in (codes "link" ∷ p ∷ codes "alias" ∷ q ∷ []) ≡ Ok (Some l, Some a)
both_read p q l a e f = rw (e, f)

links_again : (l a : Option SymbolRef) → IfSome l IsSymbol → IfSome a IsSymbol → links_in (keyed (codes "link") l ++ keyed (codes "alias") a) ≡ Ok (l, a)
links_again None None g h = refl
links_again None (Some a) g h = alias_read (symbol_word a) a (symbol_again a h)
links_again (Some l) None g h = link_read (symbol_word l) l (symbol_again l g)
links_again (Some l) (Some a) g h = both_read (symbol_word l) (symbol_word a) l a (symbol_again l g) (symbol_again a h)

symbol_read : (n s k : Word) (ws : List Word) (scope : ℕ) (bound : Bool) (l a : Option SymbolRef) → number_in s ≡ Ok scope → either k (codes "bound") (codes "facade") ≡ Ok bound → links_in ws ≡ Ok (l, a)
    → symbol_row (n ∷ s ∷ k ∷ ws) ≡ Ok (record { name = n; scope = scope; bound = bound; link = l; alias = a })
symbol_read n s k ws scope bound l a e f g = rw (e, f, g)

pub symbol_row_again : (y : Symbol) → WritableSymbol y → symbol_row (symbol_words_of y) ≡ Ok y
symbol_row_again y h =
    symbol_read y.name (decimal y.scope) (cond y.bound (codes "bound") (codes "facade")) (keyed (codes "link") y.link ++ keyed (codes "alias") y.alias) _ _ _ _ (number_again y.scope h.scope) (either_read (codes "bound") (codes "facade") y.bound refl refl refl) (links_again y.link y.alias h.link h.alias)

unresolved_read : (n s : Word) (scope : ℕ) → number_in s ≡ Ok scope → unresolved_row (n ∷ s ∷ []) ≡ Ok (record { name = n; scope = scope })
unresolved_read n s scope e = rw e

pub unresolved_again : (u : Unresolved) → WritableUnresolved u → unresolved_row (u.name ∷ decimal u.scope ∷ []) ≡ Ok u
unresolved_again u h = unresolved_read u.name (decimal u.scope) u.scope (number_again u.scope h.scope)

reference_read : (s t : Word) (scope target : ℕ) → number_in s ≡ Ok scope → number_in t ≡ Ok target → reference_row (s ∷ t ∷ []) ≡ Ok (record { scope = scope; target = target; resolved = None })
reference_read s t scope target e f = rw (e, f)

pub reference_again : (scope target : ℕ) → IsNumber scope → IsNumber target → reference_row (decimal scope ∷ decimal target ∷ []) ≡ Ok (record { scope = scope; target = target; resolved = None })
reference_again scope target g h = reference_read (decimal scope) (decimal target) scope target (number_again scope g) (number_again target h)

member_read : (s t p : Word) (scope target : ℕ) (q : SymbolRef) → number_in s ≡ Ok scope → number_in t ≡ Ok target → symbol_in p ≡ Ok q → member_row (s ∷ t ∷ p ∷ []) ≡ Ok (record { scope = scope; target = target; resolved = Some q })
member_read s t p scope target q e f g = rw (e, f, g)

pub member_again : (scope target : ℕ) (q : SymbolRef) → IsNumber scope → IsNumber target → IsSymbol q → member_row (decimal scope ∷ decimal target ∷ symbol_word q ∷ []) ≡ Ok (record { scope = scope; target = target; resolved = Some q })
member_again scope target q g h i = member_read (decimal scope) (decimal target) (symbol_word q) scope target q (number_again scope g) (number_again target h) (symbol_again q i)

-- a symbol does not read as the mark of an import from an external module
no_mark : (q : SymbolRef) → IsSymbol q → bytes_eq (symbol_word q) (codes "external") ≡ false
no_mark q h = differs (symbol_word q) 101 _ (list_any-append (λ b. b == 101) (decimal q.owner) (46 ∷ decimal q.symbol) ∙ rw (absent 101 q.owner refl h.owner, absent 101 q.symbol refl h.symbol))

statement_read : (k : Word) (ws vs : List Word) (kept external : Bool) (qs : List SymbolRef) → either k (codes "kept") (codes "dropped") ≡ Ok kept → past_mark ws ≡ vs → is_external ws ≡ external → each symbol_in vs ≡ Ok qs
    → statement_row (k ∷ ws) ≡ Ok (record { kept = kept; external = external; declared = qs })
statement_read k ws vs kept external qs e f g h = rw (e, f, g, h)

-- the words behind those of a mark, if there is one
declared_again : (external : Bool) (qs : List SymbolRef) → All IsSymbol qs → (past_mark (cond external (codes "external" ∷ []) [] ++ map symbol_word qs) ≡ map symbol_word qs) × (is_external (cond external (codes "external" ∷ []) [] ++ map symbol_word qs) ≡ external)
declared_again true qs h = (refl, refl)
declared_again false [] h = (refl, refl)
declared_again false (q ∷ qs) h = let n = no_mark q (All-head IsSymbol q qs h) in (ap (λ t. cond t (map symbol_word qs) (symbol_word q ∷ map symbol_word qs)) n, n)

pub statement_again : (s : Statement) → All IsSymbol s.declared → statement_row (statement_words_of s) ≡ Ok s
statement_again s h =
    let d = declared_again s.external s.declared h in
    statement_read (cond s.kept (codes "kept") (codes "dropped")) (cond s.external (codes "external" ∷ []) [] ++ map symbol_word s.declared) (map symbol_word s.declared) _ _ _ (either_read (codes "kept") (codes "dropped") s.kept refl refl refl) d.0 d.1 (each_again symbol_in symbol_word IsSymbol symbol_again s.declared h)

-- what the rows write is words
pub constant : (w : Word) → is_nil w ≡ false → list_any (λ b. b == 32) w ≡ false → IsWord w
constant w e f = record { filled = e; spaceless = f }

one_of : (b : Bool) (v w : Word) → IsWord v → IsWord w → IsWord (cond b v w)
one_of true v w g h = g
one_of false v w g h = h

words_both : (ws vs : List Word) → AreWords ws → AreWords vs → AreWords (ws ++ vs)
words_both [] vs g h = h
words_both (w ∷ ws) vs g h = (g.0, words_both ws vs g.1 h)

keyed_words : (key : Word) (o : Option SymbolRef) → IsWord key → IfSome o IsSymbol → AreWords (keyed key o)
keyed_words key None k h = tt
keyed_words key (Some q) k h = (k, (symbol_is_word q h, tt))

pub symbol_words : (y : Symbol) → WritableSymbol y → AreWords (symbol_words_of y)
symbol_words y h = (
  h.name,
  (
    decimal_word y.scope h.scope,
    (
      one_of y.bound _ _ (constant (codes "bound") refl refl) (constant (codes "facade") refl refl),
      words_both _ _ (keyed_words _ y.link (constant (codes "link") refl refl) h.link) (keyed_words _ y.alias (constant (codes "alias") refl refl) h.alias),
    ),
  ),
)

pub marked_words : (b : Bool) (w : Word) → IsWord w → AreWords (cond b (w ∷ []) [])
marked_words true w h = (h, tt)
marked_words false w h = tt

pub statement_words : (s : Statement) → All IsSymbol s.declared → AreWords (statement_words_of s)
statement_words s h = (
  one_of s.kept _ _ (constant (codes "kept") refl refl) (constant (codes "dropped") refl refl),
  words_both _ _ (marked_words s.external _ (constant (codes "external") refl refl)) (are_words symbol_word IsSymbol symbol_is_word s.declared h),
)
