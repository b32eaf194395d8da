-- The formats, their words and their codes. Assumes nothing.
use Rattle.std.specs.Prelude.{◌≡◌, ℕ, cond, List, Some, None, codes, Option, ◌==◌, ◌≢◌}
use Rattle.chunk_tables.specs.declared.format.Format.{Format}
use Rattle.chunk_tables.specs.declared.format.Format.TheVariants.{Esm, Cjs, Iife, Umd}

-- the word by which a format is chosen
abbrev pub word_of : Format → List ℕ
word_of Esm = codes "esm"
word_of Cjs = codes "cjs"
word_of Iife = codes "iife"
word_of Umd = codes "umd"

-- what is read of a word w: a format only where w is its word, and nothing only where w is no format's
abbrev pub Reads : List ℕ → Option Format → Type 0
Reads w (Some f) = w ≡ word_of f
Reads w None = (f : Format) → w ≢ word_of f

-- the number that stands for a format in a chunk
abbrev pub code_of : Format → ℕ
code_of Esm = 1
code_of Cjs = 2
code_of Iife = 3
code_of Umd = 4

-- what a number stands for, if it stands for a format
abbrev pub of_code : ℕ → Option Format
of_code n =
    cond (n == 1) (Some Esm) (cond (n == 2) (Some Cjs) (cond (n == 3) (Some Iife) (cond (n == 4) (Some Umd) None)))
