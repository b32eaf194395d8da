-- The documents of a text. Assumes nothing.
use Rattle.std.specs.Prelude.{ℕ, ◌+◌, ◌-◌, Bool, cond, List, [], ◌∷◌, ◌++◌, length, take, codes, ◌==◌}
use Rattle.std.specs.List.{slice_split, slice_index}
use Rattle.std.specs.Str.{bytes_eq}
use Rattle.line_text.specs.Cut.{trimmed}

abbrev pub Line : Type 0
Line = List ℕ

-- a text without a line end at its end
abbrev pub without_end : List ℕ → List ℕ
without_end text = cond (slice_index text (length text - 1) == 10) (take (length text - 1) text) text

-- the lines of a text; a line end at its end begins no further one
abbrev pub lines : List ℕ → List Line
lines text = slice_split (λ b. b == 10) (without_end text)

-- whether a line stands between two documents
abbrev pub is_separator : Line → Bool
is_separator l = bytes_eq (trimmed l) (codes "---")

-- what stands between the separators
abbrev pub parts : List Line → List (List Line)
parts ls = slice_split is_separator ls

-- some lines, and the number of the first of them
pub record Document : Type 0 where
  pub first : ℕ
  pub lines : List Line

-- the lines as a document, unless there is none
abbrev pub some_document : ℕ → List Line → List Document
some_document first [] = []
some_document first (l ∷ ls) = record { first = first; lines = l ∷ ls } ∷ []

-- the documents that parts are, of which the first begins with the line of this number; a separator stands behind a part
abbrev pub numbered : ℕ → List (List Line) → List Document
numbered first [] = []
numbered first (p ∷ ps) = some_document first p ++ numbered (first + (length p + 1)) ps

-- the documents that lines are; the first line has number 1
abbrev pub documents : List Line → List Document
documents ls = numbered 1 (parts ls)
