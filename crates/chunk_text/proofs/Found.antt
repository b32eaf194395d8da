-- What is found in a table of words. Assumes nothing.
use Rattle.std.proofs.Common.{◌≡◌, ℕ, Bool, true, false, cond, List, [], ◌∷◌, map, Some, None, Option, Bor, length, eqb, refl, arith, ap, sym, ◌∙◌}
use Rattle.std.specs.List.{find}
use Rattle.std.specs.Option.{MatchOption, ok_or, option_map}
use Rattle.std.specs.Str.{bytes_eq}
use Rattle.chunk_text.specs.declared.fault.Fault.TheVariants.{NoSuchLine}
use Rattle.chunk_text.specs.Words.{is_nil, find_verb}

-- a row of the model is found where the row that it views is
pub find_view : {X Y : Type 0} (v : X → Y) (p : Y → Bool) (xs : List X) → find p (map v xs) ≡ option_map v (find (λ x. p (v x)) xs)
find_view v p [] = refl
find_view v p (x ∷ xs) = on (p (v x)) (find_view v p xs)
  where
    on : (b : Bool) → find p (map v xs) ≡ option_map v (find (λ x. p (v x)) xs) → cond b (Some (v x)) (find p (map v xs)) ≡ option_map v (cond b (Some x) (find (λ x. p (v x)) xs))
    on true h = refl
    on false h = h

-- what the first row with a word says, where the found row is seen by now
pub said : {V : Type 0} (ts : List (Bor (List ℕ) × V)) (w : List ℕ) (r : Option (Bor (Bor (List ℕ) × V))) (m : Option V)
    → option_map (λ x. x.now) r ≡ find (λ t. bytes_eq t.0.now w) ts → MatchOption r (m ≡ None) (λ x. m ≡ Some x.now.1) → ok_or m NoSuchLine ≡ find_verb (map (λ t. (t.0.now, t.1)) ts) w
said {V = V} ts w r m e h = ap (λ o. ok_or o NoSuchLine) (now r m h ∙ ap second e ∙ sym (ap (option_map (λ t. t.1)) (find_view row (λ t. bytes_eq t.0 w) ts) ∙ both (find (λ t. bytes_eq t.0.now w) ts)))
  where
    row : Bor (List ℕ) × V → List ℕ × V
    row t = (t.0.now, t.1)

    second : Option (Bor (List ℕ) × V) → Option V
    second o = option_map (λ t. t.1) o

    now : (r : Option (Bor (Bor (List ℕ) × V))) (m : Option V) → MatchOption r (m ≡ None) (λ x. m ≡ Some x.now.1) → m ≡ second (option_map (λ x. x.now) r)
    now None m h = h
    now (Some x) m h = h

    both : (o : Option (Bor (List ℕ) × V)) → option_map (λ t. t.1) (option_map row o) ≡ second o
    both None = refl
    both (Some t) = refl

-- a word of no bytes is empty
pub is_empty : (w : List ℕ) → is_nil w ≡ eqb (length w) 0
is_empty [] = refl
is_empty (b ∷ bs) = grind arith
