-- Lines made of words, and what the reader makes of them. Assumes nothing.
use Rattle.std.proofs.Common.{◌≡◌, ℕ, suc, Bool, true, false, cond, ◌||◌, List, [], ◌∷◌, ◌++◌, Ok, Err, Result, ◌==◌, not, refl, ap, ◌∙◌}
use Rattle.std.specs.List.{list_any, join_with_byte, AllByRecursion}
use Rattle.std.proofs.lemmas.Bool.{or_parts, not-true}
use Rattle.line_text.specs.Cut.{trimmed}
use Rattle.chunk_text.specs.declared.fault.Fault.{Fault}
use Rattle.chunk_text.specs.Gives.{◌>>=◌}
use Rattle.chunk_text.specs.Words.{Word, is_nil, words}
use Rattle.chunk_text.specs.Documents.{Draft, spoken_line, worded_line, trimmed_line, read_line, read_lines, numbered}
use Rattle.chunk_text.specs.Writable.{IsWord}
use Rattle.chunk_text.specs.Writing.{Line, line}

-- each of these is a word
abbrev pub AreWords : List Word → Type 0
AreWords ws = AllByRecursion IsWord ws

split_last : (w : Word) → list_any (λ b. b == 32) w ≡ false → words w ≡ w ∷ []
split_last [] h = refl
split_last (b ∷ w) h = let k = or_parts (b == 32) _ h in rw (k.0, split_last w k.1)

split_first : (w : Word) (bs : List ℕ) → list_any (λ b. b == 32) w ≡ false → words (w ++ 32 ∷ bs) ≡ w ∷ words bs
split_first [] bs h = refl
split_first (b ∷ w) bs h = let k = or_parts (b == 32) _ h in rw (k.0, split_first w bs k.1)

-- words with single spaces between them
pub words_again : (w : Word) (ws : List Word) → AreWords (w ∷ ws) → words (join_with_byte 32 (w ∷ ws)) ≡ w ∷ ws
words_again w [] h = split_last w h.0.spaceless
words_again w (v ∷ ws) h = split_first w (join_with_byte 32 (v ∷ ws)) h.0.spaceless ∙ ap (λ vs. w ∷ vs) (words_again v ws h.1)

none_empty : (ws : List Word) → AreWords ws → list_any is_nil ws ≡ false
none_empty [] h = refl
none_empty (w ∷ ws) h = rw (h.0.filled) (none_empty ws h.1)

-- a word with which a line can begin: its first byte is no number sign
abbrev pub is_verb : Word → Bool
is_verb [] = false
is_verb (b ∷ bs) = not ((b == 35) || list_any (λ c. c == 32) (b ∷ bs))

-- what is known of such a word
record IsVerb (b : ℕ) (v : Word) : Type 0 where
  no_comment : (b == 35) ≡ false
  no_space : (b == 32) ≡ false
  word : IsWord (b ∷ v)

verb : (b : ℕ) (v : Word) → is_verb (b ∷ v) ≡ true → IsVerb b v
verb b v e =
    let h = or_parts _ _ (not-true _ e) in
    record { no_comment = h.0; no_space = (or_parts _ _ h.1).0; word = record { filled = refl; spaceless = h.1 } }

front_again : (b : ℕ) (bs : List ℕ) → (b == 32) ≡ false → trimmed (b ∷ bs) ≡ b ∷ bs
front_again b bs e = rw e

trimmed_again : (D : Draft) (b : ℕ) (bs : List ℕ) → (b == 32) ≡ false → (b == 35) ≡ false → read_line D (b ∷ bs) ≡ worded_line D (words (b ∷ bs))
trimmed_again D b bs e f = ap (trimmed_line D) (front_again b bs e) ∙ ap (λ t. cond t (Ok D) (worded_line D (words (b ∷ bs)))) f

joined_again : (D : Draft) (b : ℕ) (v : Word) (ws : List Word) → (b == 32) ≡ false → (b == 35) ≡ false → read_line D (line (b ∷ v) ws) ≡ worded_line D (words (line (b ∷ v) ws))
joined_again D b v [] e f = trimmed_again D b v e f
joined_again D b v (w ∷ ws) e f = trimmed_again D b (v ++ 32 ∷ join_with_byte 32 (w ∷ ws)) e f

-- a line is read by its words
line_again : (D : Draft) (v : Word) (ws : List Word) → is_verb v ≡ true → AreWords ws → read_line D (line v ws) ≡ spoken_line D v ws
line_again D [] ws e h = absurd cc
line_again D (b ∷ v) ws e h =
    let k = verb b v e in
    joined_again D b v ws k.no_space k.no_comment
    ∙ (ap (worded_line D) (words_again (b ∷ v) ws (k.word, h)) ∙ rw (none_empty ((b ∷ v) ∷ ws) (k.word, h)))

-- the lines make the draft E of the draft D, whatever their numbers
pub record Leads (D : Draft) (ls : List Line) (E : Draft) : Type 0 where
  pub read : (k : ℕ) → read_lines k D ls ≡ Ok E

pub none : {D : Draft} → Leads D [] D
none = record { read = λ k. refl }

-- a line of one kind
pub one : {D E : Draft} (v : Word) (ws : List Word) → is_verb v ≡ true → AreWords ws → spoken_line D v ws ≡ Ok E → Leads D (line v ws ∷ []) E
one {D} {E} v ws b h e = record { read = λ k. ap (λ r. numbered k r >>= λ F. read_lines (suc k) F []) (line_again D v ws b h ∙ e) }

rest_read : (k : ℕ) (D E : Draft) (ls ms : List Line) (r : Result Draft (ℕ × Fault)) → read_lines k D ls ≡ Ok E → ((j : ℕ) → read_lines j E ms ≡ r) → read_lines k D (ls ++ ms) ≡ r
rest_read k D E [] ms r e f = ap (λ F. read_lines k F ms) (cc) ∙ f k
rest_read k D E (l ∷ ls) ms r e f = step (read_line D l) (λ F. rest_read (suc k) F E ls ms r) e
  where
    step : (s : Result Draft Fault) → ((F : Draft) → read_lines (suc k) F ls ≡ Ok E → ((j : ℕ) → read_lines j E ms ≡ r) → read_lines (suc k) F (ls ++ ms) ≡ r)
        → (numbered k s >>= λ F. read_lines (suc k) F ls) ≡ Ok E → (numbered k s >>= λ F. read_lines (suc k) F (ls ++ ms)) ≡ r
    step (Ok F) ih e = ih F e f
    step (Err d) ih e = absurd cc

infixl 3 ◌then◌
pub ◌then◌ : {D E F : Draft} {ls ms : List Line} → Leads D ls E → Leads E ms F → Leads D (ls ++ ms) F
◌then◌ {D} {E} {F} {ls} {ms} a b = record { read = λ k. rest_read k D E ls ms (Ok F) (a.read k) b.read }
