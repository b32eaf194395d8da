-- What stands between the separators of a list. Assumes nothing.
use Rattle.std.proofs.Common.{◌++◌, ◌<◌, append_assoc, Bor, Ok, Err, Result, IfOk, ◌≡◌, ℕ, ◌+◌, Bool, true, false, cond, List, [], ◌∷◌, map, length, refl, sym, ap, ◌∙◌, arith}
use Rattle.std.specs.Global.{Vec}
use Rattle.std.specs.List.{slice_split, onto_first}
use Rattle.std.proofs.lemmas.Simd.{map-map}
use Rattle.documents.specs.Documents.{Line, Document, some_document, parts, is_separator}

-- how many lines parts span, with a separator behind each
abbrev pub spanned : {X : Type 0} → List (List X) → ℕ
spanned [] = 0
spanned (p ∷ ps) = (length p + 1) + spanned ps

onto_spans : {X : Type 0} (x : X) (ps : List (List X)) (n : ℕ) → spanned ps ≡ n + 1 → spanned (onto_first x ps) ≡ (n + 1) + 1
onto_spans x [] n e = absurd (omega arith)
onto_spans x (p ∷ ps) n e = omega arith

spans_by : {X : Type 0} (b : Bool) (x : X) (ps : List (List X)) (n : ℕ) → spanned ps ≡ n + 1 → spanned (cond b ([] ∷ ps) (onto_first x ps)) ≡ (n + 1) + 1
spans_by true x ps n e = omega arith
spans_by false x ps n e = onto_spans x ps n e

-- the parts of a list span it, and one separator more
pub spans_all : {X : Type 0} (p : X → Bool) (xs : List X) → spanned (slice_split p xs) ≡ length xs + 1
spans_all p [] = refl
spans_all p (x ∷ xs) = spans_by (p x) x (slice_split p xs) (length xs) (spans_all p xs) ∙ omega arith

onto_views : {X Y : Type 0} (v : X → Y) (x : X) (ps : List (List X)) → map (map v) (onto_first x ps) ≡ onto_first (v x) (map (map v) ps)
onto_views v x [] = refl
onto_views v x (p ∷ ps) = refl

views_by : {X Y : Type 0} (v : X → Y) (b : Bool) (x : X) (ps : List (List X)) → map (map v) (cond b ([] ∷ ps) (onto_first x ps)) ≡ cond b ([] ∷ map (map v) ps) (onto_first (v x) (map (map v) ps))
views_by v true x ps = refl
views_by v false x ps = onto_views v x ps

-- the parts of a list that is seen by a view are the views of its parts
pub views_split : {X Y : Type 0} (v : X → Y) (p : Y → Bool) (xs : List X) → map (map v) (slice_split (λ x. p (v x)) xs) ≡ slice_split p (map v xs)
views_split v p [] = refl
views_split v p (x ∷ xs) = views_by v (p (v x)) x (slice_split (λ y. p (v y)) xs) ∙ ap (λ ps. cond (p (v x)) ([] ∷ ps) (onto_first (v x) ps)) (views_split v p xs)

-- what a list of references has, once each is read
pub seen_parts : {E : Type 0} (r : Result (Vec (Bor (List (Bor (List ℕ))))) E) (ls : List (Bor (List ℕ))) → IfOk r (λ v. map (λ p. p.now) v.items ≡ slice_split (λ l. is_separator l.now) ls) → IfOk r (λ v. map (λ p. map (λ l. l.now) p.now) v.items ≡ parts (map (λ l. l.now) ls))
seen_parts (Ok v) ls h = sym (map-map (map (λ l. l.now)) (λ p. p.now) v.items) ∙ ap (map (map (λ l. l.now))) h ∙ views_split (λ l. l.now) is_separator ls
seen_parts (Err e) ls h = tt

-- a part that is no line begins no document
pub none_begins : (olds rest : List Document) (first : ℕ) (p : List Line) {all : List Document} → length p ≡ 0 → olds ++ (some_document first p ++ rest) ≡ all → olds ++ rest ≡ all
none_begins olds rest first [] n h = h
none_begins olds rest first (l ∷ ls) n h = absurd (omega arith)

-- and any other is the next document
pub one_begins : (olds rest : List Document) (first : ℕ) (p : List Line) {all : List Document} → 0 < length p → olds ++ (some_document first p ++ rest) ≡ all → (olds ++ record { first = first; lines = p } ∷ []) ++ rest ≡ all
one_begins olds rest first [] n h = absurd (omega arith)
one_begins olds rest first (l ∷ ls) n h = append_assoc olds (record { first = first; lines = l ∷ ls } ∷ []) rest ∙ h
