-- What lines add to a part of a document: rows, marks, numbers and lists. Assumes nothing.
use Rattle.std.proofs.Common.{◌≡◌, ℕ, Bool, true, false, List, [], ◌∷◌, ◌++◌, map, Option, Some, None, Result, Ok, decimal, All, IfSome, ap, ◌∙◌, subst, append_assoc, append-nil}
use Rattle.std.specs.List.{flat_map}
use Rattle.std.proofs.lemmas.List.Concat.{flat_map_single}
use Rattle.std.proofs.lemmas.List.Elements.{All-head, All-tail}
use Rattle.chunk_text.specs.declared.fault.Fault.{Fault}
use Rattle.chunk_text.specs.Gives.{◌>>=◌}
use Rattle.chunk_text.specs.Words.{Word, only_number, adding}
use Rattle.chunk_text.specs.Documents.{Draft, spoken_line}
use Rattle.chunk_text.specs.Writable.{IsNumber, IsWord}
use Rattle.chunk_text.specs.Writing.{Line, line, mark_lines, number_line, number_lines}
use Rattle.chunk_text.proofs.Digits.{decimal_word, number_again}
use Rattle.chunk_text.proofs.Lines.{AreWords, is_verb, Leads, none, one, ◌then◌}
use Rattle.chunk_text.proofs.ModuleRows.{are_words, adding_again}

-- rows that stand one after another, each adding itself
pub rows : {A : Type 0} (at : List A → Draft) (text : A → List Line) (P : A → Type 0) (each : (front : List A) (x : A) → P x → Leads (at front) (text x) (at (front ++ x ∷ []))) (front xs : List A) → All P xs → Leads (at front) (flat_map text xs) (at (front ++ xs))
rows at text P each front [] h = rw append-nil none
rows at text P each front (x ∷ xs) h =
    each front x (All-head P x xs h)
    then (subst (λ ys. Leads (at (front ++ x ∷ [])) (flat_map text xs) (at ys)) (append_assoc front (x ∷ []) xs) (rows at text P each (front ++ x ∷ []) xs (All-tail P x xs h)))

-- the same of rows with a line each
pub row_lines : {A : Type 0} (at : List A → Draft) (text : A → Line) (P : A → Type 0) → ((front : List A) (x : A) → P x → Leads (at front) (text x ∷ []) (at (front ++ x ∷ []))) → (xs : List A) → All P xs → Leads (at []) (map text xs) (at xs)
row_lines at text P each xs h = subst (λ ls. Leads (at []) ls (at xs)) (flat_map_single text xs) (rows at (λ x. text x ∷ []) P each [] xs h)

-- a mark, where it stands
pub marks : (at : Bool → Draft) (w : Word) → is_verb w ≡ true → spoken_line (at false) w [] ≡ Ok (at true) → (b : Bool) → Leads (at false) (mark_lines w b) (at b)
marks at w k e true = one w [] k tt e
marks at w k e false = none

-- in what follows a line is read into a part of a draft: at is the part with the rows so far, see the draft with the part
module _ {S : Type 0} (see : S → Draft) (w : Word) (k : is_verb w ≡ true) where
  -- a number, where it is given
  pub number_of : (at : Option ℕ → S) → ((ws : List Word) → spoken_line (see (at None)) w ws ≡ (only_number ws >>= (λ n. Ok (at (Some n))) >>= λ s. Ok (see s)))
      → (o : Option ℕ) → IfSome o IsNumber → Leads (see (at None)) (number_lines w o) (see (at o))
  number_of at says None h = none
  number_of at says (Some n) h = one w (decimal n ∷ []) k (decimal_word n h, tt) (says (decimal n ∷ []) ∙ ap (λ r. r >>= (λ n. Ok (at (Some n))) >>= λ s. Ok (see s)) (number_again n h))

  -- rows with a line each
  pub rows_of : {A : Type 0} (at : List A → S) (reads : List A → List Word → Result A Fault) (words : A → List Word) (P : A → Type 0)
      → ((front : List A) (ws : List Word) → spoken_line (see (at front)) w ws ≡ (reads front ws >>= (λ x. Ok (at (front ++ x ∷ []))) >>= λ s. Ok (see s)))
      → ((x : A) → P x → AreWords (words x)) → ((front : List A) (x : A) → P x → reads front (words x) ≡ Ok x)
      → (xs : List A) → All P xs → Leads (see (at [])) (map (λ x. line w (words x)) xs) (see (at xs))
  rows_of at reads words P says are again xs h = row_lines (λ xs. see (at xs)) (λ x. line w (words x)) P
      (λ front x p. one w (words x) k (are x p) (says front (words x) ∙ ap (λ r. r >>= (λ x. Ok (at (front ++ x ∷ []))) >>= λ s. Ok (see s)) (again front x p)))
      xs h

  -- rows that are numbers
  pub numbers_of : (at : List ℕ → S) (reads : List ℕ → List Word → Result ℕ Fault)
      → ((front : List ℕ) (ws : List Word) → spoken_line (see (at front)) w ws ≡ (reads front ws >>= (λ x. Ok (at (front ++ x ∷ []))) >>= λ s. Ok (see s)))
      → ((front : List ℕ) (n : ℕ) → IsNumber n → reads front (decimal n ∷ []) ≡ Ok n)
      → (ns : List ℕ) → All IsNumber ns → Leads (see (at [])) (map (number_line w) ns) (see (at ns))
  numbers_of at reads says again ns h = rows_of at reads (λ n. decimal n ∷ []) IsNumber says (λ n fits. (decimal_word n fits, tt)) again ns h

  -- a list in one line
  pub list_of : {A : Type 0} (at : List A → S) (reads : Word → Result A Fault) (word : A → Word) (P : A → Type 0)
      → ((ws : List Word) → spoken_line (see (at [])) w ws ≡ (adding reads [] ws >>= (λ xs. Ok (at xs)) >>= λ s. Ok (see s)))
      → ((x : A) → P x → IsWord (word x)) → ((x : A) → P x → reads (word x) ≡ Ok x)
      → (xs : List A) → All P xs → Leads (see (at [])) (line w (map word xs) ∷ []) (see (at xs))
  list_of at reads word P says is again xs h =
      one w (map word xs) k (are_words word P is xs h) (says (map word xs) ∙ ap (λ r. r >>= (λ xs. Ok (at xs)) >>= λ s. Ok (see s)) (adding_again reads word P again xs h))
