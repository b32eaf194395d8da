-- Names cleaned byte by byte. Assumes nothing.
use Rattle.std.proofs.Common.{◌≡◌, ℕ, ◌+◌, ◌<◌, ◌≤◌, Bool, true, false, cond, List, [], ◌∷◌, ◌++◌, length, get_or, take, drop, set, sym, refl, ap, ◌∙◌, arith, add-one, append_assoc, drop-cons}
use Rattle.std.proofs.lemmas.List.{map_more, set_at, length-map, length-take-le}
use Rattle.hints.specs.Hints.{is_plain, cleaned_byte, cleaned}

-- x written over the rest of `was`, behind what was written before
overwritten : (p was : List ℕ) (i x : ℕ) → length p ≡ i → i < length was → set (p ++ drop i was) i x ≡ (p ++ x ∷ []) ++ drop (i + 1) was
overwritten p was i x e h =
    ap (λ t. set (p ++ t) i x) (drop-cons was i 0 h) ∙ set_at p (get_or was i 0) _ x i e ∙ rw (add-one, append_assoc)

-- one byte more of a name is cleaned
pub cleaned_more : (n was : List ℕ) (i : ℕ) → i < length n → length n ≤ length was → set (cleaned (take i n) ++ drop i was) i (cleaned_byte (get_or n i 0)) ≡ cleaned (take (i + 1) n) ++ drop (i + 1) was
cleaned_more n was i h fits =
    overwritten (cleaned (take i n)) was i (cleaned_byte (get_or n i 0)) (length-map (take i n) cleaned_byte ∙ length-take-le i n (omega arith)) (omega arith) ∙ ap (λ t. t ++ drop (i + 1) was) (sym (map_more cleaned_byte n i 0 h))

plain_by_case : (b : ℕ) (p : Bool) → p ≡ is_plain b → is_plain (cond p b 95) ≡ true
plain_by_case b true e = sym e
plain_by_case b false e = refl

pub byte_plain : (b : ℕ) → is_plain (cleaned_byte b) ≡ true
byte_plain b = plain_by_case b (is_plain b) refl

byte_settled : (b : ℕ) → cleaned_byte (cleaned_byte b) ≡ cleaned_byte b
byte_settled b = ap (λ p. cond p (cleaned_byte b) 95) (byte_plain b)

pub settled : (n : List ℕ) → cleaned (cleaned n) ≡ cleaned n
settled [] = refl
settled (b ∷ n) = cc (byte_settled b, settled n)
