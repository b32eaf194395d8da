-- A sound chunk has no more inner names than symbols, and none is too long. Assumes nothing.
use Rattle.std.proofs.Common.{◌≡◌, ℕ, zero, suc, ◌+◌, ◌≤◌, true, ltb, List, [], ◌∷◌, map, length, get_or, set, Some, sym, refl, ap, ◌∙◌, inl, inr, arith, length-append}
use Rattle.std.specs.List.{flat_map, list_any, slice_get}
use Rattle.std.proofs.lemmas.List.{get_or-set_other}
use Rattle.chunk_tables.specs.Lists.{maybe}
use Rattle.chunk_tables.specs.Model.{Symbol, Module, Chunk}
use Rattle.chunk_tables.specs.Limits.{in_all, symbol_count}
use Rattle.chunk_faults.specs.Sound.{Sound}
use Rattle.policies.specs.InnerNames.{symbol_names, module_names, member_names, inner_names}
use Rattle.policies.specs.Sets.{Unnoted}
use Rattle.policies.proofs.Parts.{found_symbol}
use borrow.Author.Tests.{ltb-true}

-- no number twice
abbrev Differ : List ℕ → Type 0
Differ ms = (j k m : ℕ) → slice_get ms j ≡ Some m → slice_get ms k ≡ Some m → j ≡ k

in_all_alike : (f g : ℕ → ℕ) (ms : List ℕ) → ((k m : ℕ) → slice_get ms k ≡ Some m → f m ≡ g m) → in_all f ms ≡ in_all g ms
in_all_alike f g [] h = refl
in_all_alike f g (m ∷ ms) h = let a = h 0 m refl in let b = in_all_alike f g ms (λ k n e. h (suc k) n e) in omega arith

-- the sum of a list without the number at m
sum_without : (ws : List ℕ) (m : ℕ) → get_or ws m 0 + in_all (λ w. w) (set ws m 0) ≡ in_all (λ w. w) ws
sum_without [] m = refl
sum_without (w ∷ ws) zero = omega arith
sum_without (w ∷ ws) (suc m) = let ih = sum_without ws m in omega arith

-- what stands at different places comes to no more than the whole list
different_places : (ms ws : List ℕ) → Differ ms → in_all (λ m. get_or ws m 0) ms ≤ in_all (λ w. w) ws
different_places [] ws d = omega arith
different_places (m ∷ ms) ws d =
    let rest = different_places ms (set ws m 0) (λ j k n a b. let e = d (suc j) (suc k) n a b in omega arith) in
    let same = in_all_alike (λ n. get_or ws n 0) (λ n. get_or (set ws m 0) n 0) ms (λ k n e. sym (get_or-set_other ws m n 0 0 (λ q. let z = d 0 (suc k) m refl (e ∙ ap Some q) in omega arith))) in
    omega (arith, sum_without ws m)

abbrev symbols_of : Module → ℕ
symbols_of M = length M.symbols

few_names : (M : Module) (ys : List Symbol) → length (flat_map (symbol_names M) ys) ≤ length ys
few_names M [] = omega arith
few_names M (y ∷ ys) = let ih = few_names M ys in let cut = length-append (symbol_names M y) (flat_map (symbol_names M) ys) in grind arith

few_in_member : (Ms : List Module) (m : ℕ) → length (maybe (slice_get Ms m) [] module_names) ≤ get_or (map symbols_of Ms) m 0
few_in_member [] m = omega arith
few_in_member (M ∷ Ms) zero = few_names M M.symbols
few_in_member (M ∷ Ms) (suc m) = few_in_member Ms m

few_in_members : (c : Chunk) (ms : List ℕ) → length (flat_map (member_names c) ms) ≤ in_all (λ m. get_or (map symbols_of c.modules) m 0) ms
few_in_members c [] = omega arith
few_in_members c (m ∷ ms) =
    let here = few_in_member c.modules m in
    let rest = few_in_members c ms in
    omega (arith, length-append (member_names c m) (flat_map (member_names c) ms))

all_symbols : (Ms : List Module) → in_all (λ w. w) (map symbols_of Ms) ≡ in_all symbols_of Ms
all_symbols [] = refl
all_symbols (M ∷ Ms) = ap (λ n. length M.symbols + n) (all_symbols Ms)

module _ (c : Chunk) (sound : Sound c) where
  few : length (inner_names c) ≤ symbol_count c
  few = omega (arith, few_in_members c c.members, different_places c.members (map symbols_of c.modules) sound.members.different, all_symbols c.modules)

  short : list_any (λ n. ltb 105 (length n)) (inner_names c) ≡ true → ⊥
  short long =
      let r = found_symbol (λ n. ltb 105 (length n)) c long in
      let s = r.0 in
      let fit = ((sound.modules s.owner s.home s.known).symbols s.number s.symbol s.stands).name in
      let l = fit.1 in
      let m = ltb-true _ _ r.1 in
      omega arith

  -- so all of them can be put into as many slots as there are symbols
  pub none_unnoted : (slots why : ℕ) → symbol_count c ≤ slots → Unnoted (inner_names c) slots 0 why → ⊥
  none_unnoted slots why l (inl h) = short h.1
  none_unnoted slots why l (inr h) = let m = h.1 in let n = few in omega arith
