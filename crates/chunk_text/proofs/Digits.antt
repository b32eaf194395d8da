-- Numbers in decimal, and what they are read as. Assumes nothing.
use Rattle.std.proofs.Common.{◌≡◌, ℕ, ◌+◌, ◌-◌, ◌*◌, ◌/◌, ◌%◌, ◌^◌, ◌<◌, ◌≤◌, Bool, true, false, cond, ◌&&◌, List, [], ◌∷◌, ◌++◌, Some, None, Ok, decimal, ◌==◌, nat_lt, refl, ap, ◌∙◌, arith, true≢false}
use Rattle.std.specs.List.{list_any, list_all}
use Rattle.std.proofs.lemmas.Bool.Decides.{nat_tests}
use Rattle.std.proofs.lemmas.Fmt.{decimal_by_steps}
use Rattle.std.proofs.lemmas.List.Folds.{list_all-append}
use Rattle.line_text.specs.Numerals.{is_digit, read_on, numeral}
use Rattle.chunk_text.specs.Words.{is_nil, number_in}
use Rattle.chunk_text.specs.Writable.{IsNumber, IsWord}

-- the digits of n
pub record AreDigits (n : ℕ) (ds : List ℕ) : Type 0 where
  pub filled : is_nil ds ≡ false
  pub digits : list_all is_digit ds ≡ true
  pub value : IsNumber n → read_on 0 ds ≡ Some n

read_on_push : (m k : ℕ) (ds cs : List ℕ) → read_on m ds ≡ Some k → read_on m (ds ++ cs) ≡ read_on k cs
read_on_push m k [] cs h = ap (λ x. read_on x cs) cc
read_on_push m k (d ∷ ds) cs h = step (is_digit d && nat_lt (m * 10 + (d - 48)) (2 ^ 32)) (read_on_push (m * 10 + (d - 48)) k ds cs) h
  where
    step : (b : Bool) → (read_on (m * 10 + (d - 48)) ds ≡ Some k → read_on (m * 10 + (d - 48)) (ds ++ cs) ≡ read_on k cs) → cond b (read_on (m * 10 + (d - 48)) ds) None ≡ Some k → cond b (read_on (m * 10 + (d - 48)) (ds ++ cs)) None ≡ read_on k cs
    step true ih h = ih h
    step false ih h = absurd cc

is_digit_of : (n : ℕ) → n < 10 → is_digit (48 + n) ≡ true
is_digit_of n h = grind arith

read_digit : (m n : ℕ) → n < 10 → m * 10 + n < 2 ^ 32 → read_on m ((48 + n) ∷ []) ≡ Some (m * 10 + n)
read_digit m n h fits = grind (arith, nat_tests)

pub filled_before : (w v : List ℕ) → is_nil w ≡ false → is_nil (w ++ v) ≡ false
filled_before [] v e = absurd cc
filled_before (b ∷ w) v e = refl

value_more : (n : ℕ) (ds : List ℕ) → 10 ≤ n → AreDigits (n / 10) ds → IsNumber n → read_on 0 (ds ++ (48 + n % 10) ∷ []) ≡ Some n
value_more n ds h ih fits =
    let fits' : n / 10 < 2 ^ 32 = omega arith in
    let whole : n / 10 * 10 + n % 10 ≡ n = omega arith in
    let small : n % 10 < 10 = omega arith in
    read_on_push 0 (n / 10) ds _ (ih.value fits') ∙ (read_digit (n / 10) (n % 10) small (omega arith) ∙ ap (λ x. Some x) whole)

are_digits : (n : ℕ) → IsNumber n → AreDigits n (decimal n)
are_digits n fits = decimal_by_steps AreDigits
    (λ n h. record { filled = refl; digits = rw (is_digit_of n h) refl; value = λ fits. read_digit 0 n h (omega arith) ∙ ap (λ x. Some x) (omega arith) })
    (λ n ds h ih. record { filled = filled_before ds _ ih.filled; digits = list_all-append is_digit ds _ ∙ rw (ih.digits, is_digit_of (n % 10) (omega arith)); value = value_more n ds h ih })
    n (omega arith)

-- what is no digit is not among digits
no_digit : (c : ℕ) (ds : List ℕ) → is_digit c ≡ false → list_all is_digit ds ≡ true → list_any (λ b. b == c) ds ≡ false
no_digit c [] e h = refl
no_digit c (d ∷ ds) e h = grind (arith, nat_tests, no_digit c ds e)

pub absent : (c n : ℕ) → is_digit c ≡ false → IsNumber n → list_any (λ b. b == c) (decimal n) ≡ false
absent c n e fits = no_digit c (decimal n) e (are_digits n fits).digits

pub decimal_word : (n : ℕ) → IsNumber n → IsWord (decimal n)
decimal_word n fits = record { filled = (are_digits n fits).filled; spaceless = no_digit 32 (decimal n) refl (are_digits n fits).digits }

read_numeral : (n : ℕ) (ds : List ℕ) → IsNumber n → AreDigits n ds → numeral ds ≡ Some n
read_numeral n [] fits h = absurd (true≢false h.filled)
read_numeral n (d ∷ ds) fits h = h.value fits

pub numeral-decimal : (n : ℕ) → IsNumber n → numeral (decimal n) ≡ Some n
numeral-decimal n fits = read_numeral n (decimal n) fits (are_digits n fits)

-- a number that is written is read again
pub number_again : (n : ℕ) → IsNumber n → number_in (decimal n) ≡ Ok n
number_again n fits = rw (numeral-decimal n fits)
