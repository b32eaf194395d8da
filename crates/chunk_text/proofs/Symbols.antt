-- Symbols as words, and what they are read as. Assumes nothing.
use Rattle.std.proofs.Common.{◌≡◌, ℕ, false, List, [], ◌∷◌, ◌++◌, length, Some, Ok, decimal, ◌==◌, refl, ap, ◌∙◌, arith}
use Rattle.std.specs.List.{list_any, position_or_len}
use Rattle.std.proofs.Math.Seq.{take-append_seam, drop-append-add}
use Rattle.std.proofs.lemmas.Bool.Decides.{nat_tests}
use Rattle.std.proofs.lemmas.List.Folds.{list_any-append}
use Rattle.keys.specs.declared.refs.SymbolRef.{SymbolRef}
use Rattle.line_text.specs.Cut.{until, past}
use Rattle.line_text.specs.Numerals.{numeral}
use Rattle.chunk_text.specs.Words.{Word, symbol_in}
use Rattle.chunk_text.specs.Writable.{IsWord, IsSymbol}
use Rattle.chunk_text.specs.Writing.{symbol_word}
use Rattle.chunk_text.proofs.Digits.{filled_before, absent, decimal_word, numeral-decimal}

-- where a byte first stands
place_of : (c : ℕ) (ds cs : List ℕ) → list_any (λ b. b == c) ds ≡ false → position_or_len (λ x. x == c) (ds ++ c ∷ cs) ≡ length ds
place_of c [] cs h = grind (arith, nat_tests)
place_of c (d ∷ ds) cs h = grind (arith, nat_tests, place_of c ds cs)

until_first : (c : ℕ) (ds cs : List ℕ) → list_any (λ b. b == c) ds ≡ false → until c (ds ++ c ∷ cs) ≡ ds
until_first c ds cs h = rw (place_of c ds cs h) (take-append_seam ds (c ∷ cs))

past_first : (c : ℕ) (ds cs : List ℕ) → list_any (λ b. b == c) ds ≡ false → past c (ds ++ c ∷ cs) ≡ cs
past_first c ds cs h = rw (place_of c ds cs h) (drop-append-add ds (c ∷ cs) 1)

symbol_by_parts : (w : Word) (m s : ℕ) → numeral (until 46 w) ≡ Some m → numeral (past 46 w) ≡ Some s → symbol_in w ≡ Ok (record { owner = m; symbol = s })
symbol_by_parts w m s e f = rw (e, f)

-- a symbol that is written is read again
pub symbol_again : (q : SymbolRef) → IsSymbol q → symbol_in (symbol_word q) ≡ Ok q
symbol_again q fits = let dot = absent 46 q.owner refl fits.owner in
    symbol_by_parts (symbol_word q) q.owner q.symbol
    (ap numeral (until_first 46 (decimal q.owner) (decimal q.symbol) dot) ∙ numeral-decimal q.owner fits.owner)
    (ap numeral (past_first 46 (decimal q.owner) (decimal q.symbol) dot) ∙ numeral-decimal q.symbol fits.symbol)

pub symbol_is_word : (q : SymbolRef) → IsSymbol q → IsWord (symbol_word q)
symbol_is_word q fits = record {
  filled = filled_before (decimal q.owner) (46 ∷ decimal q.symbol) (decimal_word q.owner fits.owner).filled;
  spaceless = list_any-append (λ b. b == 32) (decimal q.owner) (46 ∷ decimal q.symbol) ∙ rw ((decimal_word q.owner fits.owner).spaceless, (decimal_word q.symbol fits.symbol).spaceless);
}
