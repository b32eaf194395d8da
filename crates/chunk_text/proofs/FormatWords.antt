-- Words that name no format. Assumes nothing.
use Rattle.std.proofs.Common.{◌≡◌, ◌≢◌, ℕ, false, List, ◌∷◌, [], zero, suc, ◌<◌, lit<, refl}
use Rattle.std.specs.List.{AllByRecursion}
use Rattle.std.specs.Str.{bytes_eq, IsAscii, IsUtf8}
use Rattle.std.proofs.lemmas.Bool.{false_from_ne_true}
use Rattle.std.proofs.lemmas.Slice.Eq.{bytes_eq-Decides}
use Rattle.std.proofs.lemmas.Str.{IsUtf8-from_ascii}
use Rattle.chunk_tables.specs.declared.format.Format.{Format}
use Rattle.chunk_tables.specs.declared.format.Format.TheVariants.{Esm, Cjs, Iife, Umd}
use Rattle.chunk_tables.specs.Formats.{word_of}
use Rattle.chunk_text.specs.ChunkRows.{format_code}

pub no_format : (w : List ℕ) → ((f : Format) → w ≢ word_of f) → 0 ≡ format_code w
no_format w none = rw (differs Esm, differs Cjs, differs Iife, differs Umd) refl
  where
    differs : (f : Format) → bytes_eq w (word_of f) ≡ false
    differs f = false_from_ne_true _ (λ e. none f ((bytes_eq-Decides w (word_of f)).0 e))

ascii : (xs : List ℕ) → AllByRecursion (λ x. x < 128) xs → IsAscii xs
ascii [] h i = lit< tt
ascii (x ∷ xs) h zero = h.0
ascii (x ∷ xs) h (suc i) = ascii xs h.1 i

-- the formats' words are texts
pub no_text : (w : List ℕ) → (IsUtf8 w → ⊥) → 0 ≡ format_code w
no_text w bad = no_format w (λ f e. bad (rw e (IsUtf8-from_ascii (word_of f) (ascii (word_of f) (small f)))))
  where
    small : (f : Format) → AllByRecursion (λ x. x < 128) (word_of f)
    small Esm = (lit< tt, (lit< tt, (lit< tt, tt)))
    small Cjs = (lit< tt, (lit< tt, (lit< tt, tt)))
    small Iife = (lit< tt, (lit< tt, (lit< tt, (lit< tt, tt))))
    small Umd = (lit< tt, (lit< tt, (lit< tt, tt)))
