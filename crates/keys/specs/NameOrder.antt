-- That the order of names is strict, and is the one of `<`. Assumes nothing.
use Rattle.std.specs.Prelude.{◌≡◌, ℕ, true, false, List, [], ◌∷◌, refl}
use Rattle.std.specs.Ordering.{is_lt, nat_cmp, on, as_partial_cmp, partial_lt}
use Rattle.std.specs.Cmp.Lexicographic.{slice_cmp}
use Rattle.std.proofs.Common.{sym, arith}
use Rattle.std.proofs.lemmas.Bool.{false≢true}
use Rattle.std.proofs.lemmas.Bool.Decides.{nat_tests}
use Rattle.names.specs.Spelt.{spelt}
use Rattle.names.specs.declared.name.Name.{Name}
use Rattle.names.proofs.Padding.{same_name}
use Rattle.keys.specs.Names.{lex, name_under}
use Rattle.keys.specs.Order.{Strict}

lex_irrefl : (xs : List ℕ) → lex xs xs ≡ false
lex_irrefl [] = refl
lex_irrefl (x ∷ xs) = let ih = lex_irrefl xs in grind (arith, nat_tests)

lex_trans : (xs ys zs : List ℕ) → lex xs ys ≡ true → lex ys zs ≡ true → lex xs zs ≡ true
lex_trans [] [] zs p q = q
lex_trans [] (y ∷ ys) [] p q = q
lex_trans [] (y ∷ ys) (z ∷ zs) p q = refl
lex_trans (x ∷ xs) [] zs p q = absurd (false≢true p)
lex_trans (x ∷ xs) (y ∷ ys) [] p q = q
lex_trans (x ∷ xs) (y ∷ ys) (z ∷ zs) p q = let ih = lex_trans xs ys zs in grind (arith, nat_tests)

lex_total : (xs ys : List ℕ) → lex xs ys ≡ false → lex ys xs ≡ false → xs ≡ ys
lex_total [] [] p q = refl
lex_total [] (y ∷ ys) p q = absurd (false≢true (sym p))
lex_total (x ∷ xs) [] p q = absurd (false≢true (sym q))
lex_total (x ∷ xs) (y ∷ ys) p q =
    let e : x ≡ y = grind (arith, nat_tests) in
    let a : lex xs ys ≡ false = grind (arith, nat_tests) in
    let b : lex ys xs ≡ false = grind (arith, nat_tests) in
    let t = lex_total xs ys a b in
    cc

pub name_order : Strict name_under
name_order = record {
  irrefl = λ x. lex_irrefl (spelt x);
  trans = λ x y z. lex_trans (spelt x) (spelt y) (spelt z);
  total = λ x y p q. same_name x y (lex_total (spelt x) (spelt y) p q);
}

lex_agrees : (xs ys : List ℕ) → is_lt (slice_cmp nat_cmp xs ys) ≡ lex xs ys
lex_agrees [] [] = refl
lex_agrees [] (y ∷ ys) = refl
lex_agrees (x ∷ xs) [] = refl
lex_agrees (x ∷ xs) (y ∷ ys) = let ih = lex_agrees xs ys in grind (arith, nat_tests)

pub name_agrees : (x y : Name) → partial_lt (as_partial_cmp (on spelt (slice_cmp nat_cmp))) x y ≡ name_under x y
name_agrees x y = lex_agrees (spelt x) (spelt y)
