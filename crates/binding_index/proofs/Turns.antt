-- One symbol more in an index. Assumes nothing.
use Rattle.std.proofs.Common.{◌≡◌, ℕ, suc, ◌+◌, ◌<◌, Bool, false, cond, List, [], ◌∷◌, ◌++◌, map, length, get_or, take, Some, None, Option, sym, ap, ◌∙◌, arith}
use Rattle.std.proofs.lemmas.List.{map_more, length-map, length-take-le}
use Rattle.names.specs.Spelt.{spelt}
use Rattle.keys.specs.Bindings.{binding_alike}
use Rattle.keys.specs.declared.binding_key.Binding.{Binding}
use Rattle.keyed_table.specs.Contents.{Contents}
use Rattle.chunk_tables.specs.Bindings.{binds_in}
use Rattle.chunk_tables.specs.Lists.{maybe, place, place_from}
use Rattle.chunk_tables.specs.View.{symbol_of}
use Rattle.chunk_tables.specs.declared.parts.Symbol.{Symbol}
use Rattle.binding_index.specs.Indexes.{KeyOf, under, Noted, Finds}
use Rattle.binding_index.proofs.Notes.{or_none}

-- the first place in a list with one row more at its end
place_push : {X : Type 0} (p : X → Bool) (n : ℕ) (xs : List X) (y : X) → place_from n p (xs ++ y ∷ []) ≡ maybe (place_from n p xs) (cond (p y) (Some (n + length xs)) None) Some
place_push p n [] y = ap (λ m. cond (p y) (Some m) None) (omega arith)
place_push p n (x ∷ xs) y = grind (arith, place_push p (suc n) xs y)

-- the turn of a loop over the symbols ys, at i, which reads y whole, and leaves the table u
module _ (ys : List Symbol) (i : ℕ) (y : Symbol) (h : i < length ys) (is : y ≡ get_or ys i y) (t u : Contents Binding ℕ) (inv : Finds (map symbol_of (take i ys)) t) where
  turn : (o : Option Binding) → KeyOf (symbol_of y) o → ((q : Binding) → under u.entries q ≡ maybe (under t.entries q) (cond (maybe o false (λ k. binding_alike k q)) (Some i) None) Some) → Finds (map symbol_of (take (i + 1) ys)) u
  turn o key e q =
      let p = binds_in q.scope (spelt q.name) in
      let zs = map symbol_of (take i ys) in
      let n : 0 + length zs ≡ i = let m = length-map (take i ys) symbol_of ∙ length-take-le i ys (omega arith) in omega arith in
      e q ∙ ap (λ b. maybe (under t.entries q) (cond b (Some i) None) Some) (sym (key q)) ∙ ap (λ r. maybe r (cond (p (symbol_of y)) (Some i) None) Some) (inv q)
      ∙ ap (λ j. maybe (place p zs) (cond (p (symbol_of y)) (Some j) None) Some) (sym n) ∙ sym (place_push p 0 zs (symbol_of y)) ∙ ap (λ x. place p (zs ++ symbol_of x ∷ [])) is
      ∙ sym (ap (place p) (map_more symbol_of ys i y h))

  pub finds_noted : (k : Binding) → KeyOf (symbol_of y) (Some k) → (v : Contents Binding ℕ) → u ≡ v → Noted t.entries k i v.entries → Finds (map symbol_of (take (i + 1) ys)) u
  finds_noted k key v e noted = turn (Some k) key (λ q. ap (λ x. under x.entries q) e ∙ noted q)

  pub finds_passed : KeyOf (symbol_of y) None → u ≡ t → Finds (map symbol_of (take (i + 1) ys)) u
  finds_passed key e = turn None key (λ q. ap (λ x. under x.entries q) e ∙ sym (or_none (under t.entries q)))
