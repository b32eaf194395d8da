-- Names as keys, by their bytes. Assumes nothing.
use Rattle.std.specs.Prelude.{ℕ, Bool, true, false, ◌&&◌, ◌||◌, List, [], ◌∷◌, fold, ◌==◌, nat_lt}
use Rattle.std.specs.Str.{bytes_eq}
use Rattle.names.specs.Spelt.{spelt}
use Rattle.names.specs.declared.name.Name.{Name}
use Rattle.keys.specs.Refs.{mixed}

-- one text makes one name
abbrev pub name_alike : Name → Name → Bool
name_alike x y = bytes_eq (spelt x) (spelt y)

-- the hash of the text: each byte mixed into that of the bytes in front
abbrev pub name_hash : Name → ℕ
name_hash x = fold mixed 0 (spelt x)

-- the order of texts: by the first byte that differs, and a text stands below each that goes on from it
abbrev pub lex : List ℕ → List ℕ → Bool
lex [] [] = false
lex [] (y ∷ ys) = true
lex (x ∷ xs) [] = false
lex (x ∷ xs) (y ∷ ys) = nat_lt x y || (x == y && lex xs ys)

-- names are ordered as their texts
abbrev pub name_under : Name → Name → Bool
name_under x y = lex (spelt x) (spelt y)
