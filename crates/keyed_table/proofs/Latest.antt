-- Links, and what `latest` says. Assumes nothing.
use Rattle.std.proofs.Common.{◌≡◌, ℕ, zero, suc, ◌+◌, ◌<◌, ◌≤◌, cond, eqb, List, [], ◌∷◌, ◌++◌, length, get_or, Some, None, Option, refl, ap, add-one, arith}
use Rattle.std.proofs.lemmas.List.{get_or_append_left, get_or_push}
use Rattle.std.proofs.lemmas.Bool.Decides.{nat_tests}
use Rattle.keyed_table.specs.Links.{latest}

-- how many places there are up to a link's
abbrev pub upto : Option ℕ → ℕ
upto None = 0
upto (Some i) = suc i

-- which tells links apart
pub upto_one : (x y : Option ℕ) → upto x ≡ upto y → x ≡ y
upto_one None None e = refl
upto_one None (Some j) e = absurd (omega arith)
upto_one (Some i) None e = absurd (omega arith)
upto_one (Some i) (Some j) e = ap Some (omega arith)

module _ (hs : List ℕ) (b : ℕ) where
  pub latest_le : (n : ℕ) → upto (latest hs b n) ≤ n
  latest_le zero = omega arith
  latest_le (suc n) = let ih = latest_le n in grind (arith, nat_tests)

  pub latest_home : (n i : ℕ) → latest hs b n ≡ Some i → get_or hs i 0 ≡ b
  latest_home zero i e = grind (arith, nat_tests)
  latest_home (suc n) i e = let ih = latest_home n i in grind (arith, nat_tests)

  pub latest_none : (n j : ℕ) → upto (latest hs b n) ≤ j → j < n → get_or hs j 0 ≡ b → ⊥
  latest_none zero j l m e = omega arith
  latest_none (suc n) j l m e = let ih = latest_none n j in grind (arith, nat_tests)

  pub latest_front : (ys : List ℕ) (n : ℕ) → n ≤ length hs → latest (hs ++ ys) b n ≡ latest hs b n
  latest_front ys zero h = refl
  latest_front ys (suc n) h =
      let ih = latest_front ys n (omega arith) in
      let at = get_or_append_left hs ys 0 n (omega arith) in
      simp (at, ih)

-- one entry more, with home h
pub latest_push : (hs : List ℕ) (h b n : ℕ) → length hs ≡ n → latest (hs ++ h ∷ []) b (n + 1) ≡ cond (eqb h b) (Some n) (latest hs b n)
latest_push hs h b n l =
    let at = get_or_push hs h 0 n l in
    let front = latest_front hs b (h ∷ []) n (omega arith) in
    simp (add-one, at, front)
