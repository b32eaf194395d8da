-- Given names as a table of symbols holds them. Assumes nothing.
use Rattle.std.proofs.Common.{◌≡◌, zero, suc, ◌≤◌, Bool, true, false, cond, ◌||◌, ltb, List, [], ◌∷◌, ◌++◌, map, length, is_some, is_ok, Some, None, Option, Ok, Err, Result, Decides, IfErr, MatchResult, sym, refl, ap, ◌∙◌, subst, rules, arith}
use mathlib.Core.HLevel.{is_prop→PathP}
use std.HLevel.{Π_prop}
use Rattle.std.specs.Option.{option_map}
use Rattle.std.proofs.lemmas.Bool.{false≢true, cond-false, or_parts, ltb-false, lt-ltb}
use Rattle.std.proofs.lemmas.List.{length-map, length_push, get_or-map, map_push}
use Rattle.std.proofs.lemmas.List.Elements.{All-push}
use Rattle.names.specs.Refusals.{number_of}
use Rattle.names.specs.Spelt.{spelt}
use Rattle.names.specs.declared.name.Name.{Name}
use Rattle.names.specs.declared.refusal.Refusal.{Refusal}
use Rattle.keys.specs.declared.refs.SymbolRef.{SymbolRef}
use Rattle.keyed_table.specs.Contents.{takes}
use Rattle.keyed_table.specs.Model.{lookup, put, Absent, Distinct}
use Rattle.keyed_table.specs.declared.slot.Entry.{Entry}
use Rattle.keyed_table.proofs.Lookups.{absent, put_none, distinct_push}
use Rattle.chunk_tables.specs.Links.{symbol_at}
use Rattle.chunk_tables.specs.Model.{Chunk}
use Rattle.chunk_tables.specs.Limits.{symbol_count}
use Rattle.chunk_faults.proofs.Facts.{is_none}
use Rattle.session_rules.specs.Session.{same_symbol, name_of}
use Rattle.given_names.specs.Laws.{NamesSymbols}
use Rattle.given_names.proofs.Counts.{at_most_symbols}
use Rattle.given_names.specs.Held.{given_of, entries_of, given_in, room_for, OfChunk, naming, NoPlace}
use Rattle.given_names.specs.declared.GivenNames.{GivenNames}

-- equal numbers are an equal symbol
pub symbols_tell : (p q : SymbolRef) → Decides (same_symbol p q) (p ≡ q)
symbols_tell = search rules

-- the name under a symbol spells the name that it was given
pub found_name : (es : List (Entry SymbolRef Name)) (q : SymbolRef) → option_map spelt (lookup same_symbol es q) ≡ name_of (map given_of es) q
found_name [] q = refl
found_name (e ∷ es) q = on (same_symbol e.key q) (found_name es q)
  where
    on : (b : Bool) → option_map spelt (lookup same_symbol es q) ≡ name_of (map given_of es) q → option_map spelt (cond b (Some e.value) (lookup same_symbol es q)) ≡ cond b (Some (spelt e.value)) (name_of (map given_of es) q)
    on true ih = refl
    on false ih = ih

some_mapped : {X Y : Type 0} (f : X → Y) (o : Option X) → is_some (option_map f o) ≡ is_some o
some_mapped f (Some x) = refl
some_mapped f None = refl

-- with equal tables, the given names are equal
same_given : (g h : GivenNames) → g.names ≡ h.names → g ≡ h
same_given g h p = λ i. record {
  names = p i;
  distinct = is_prop→PathP (λ j. Distinct (p j).entries) (λ j. Π_prop (λ clash. λ a b. absurd a)) g.distinct h.distinct i;
}

-- each key is a symbol of the chunk where each symbol that has a name is one
names_symbols : (c : Chunk) (es : List (Entry SymbolRef Name)) → OfChunk c (map given_of es) → NamesSymbols c es
names_symbols c es of k d l =
    let n = length-map es given_of in
    subst (λ g. is_some (symbol_at c g.symbol) ≡ true) (get_or-map given_of es k d (given_of d) l) (of k (given_of d) (omega arith))

-- a name put under a symbol for which no name is found
module _ (g : GivenNames) (q : SymbolRef) (n : Name) (o : Option Name) (found : option_map spelt o ≡ name_of (given_in g) q) (nothing : is_some o ≡ false) where
  none : is_some (name_of (given_in g) q) ≡ false
  none = ap is_some (sym found) ∙ some_mapped spelt o ∙ nothing

  under_none : is_some (lookup same_symbol (entries_of g) q) ≡ false
  under_none = sym (some_mapped spelt (lookup same_symbol (entries_of g) q)) ∙ ap is_some (found_name (entries_of g) q) ∙ none

  nowhere : Absent same_symbol (entries_of g) q
  nowhere = absent same_symbol (entries_of g) q (is_none (lookup same_symbol (entries_of g) q) under_none)

  behind : put same_symbol (entries_of g) q n ≡ entries_of g ++ record { key = q; value = n } ∷ []
  behind = put_none same_symbol (entries_of g) q n nowhere

  still_distinct : Distinct (entries_of g ++ record { key = q; value = n } ∷ [])
  still_distinct = distinct_push same_symbol symbols_tell (entries_of g) q g.distinct (record { key = q; value = n }) refl nowhere

  -- the table has room where it has room for each symbol of the chunk
  has_room : (c : Chunk) → OfChunk c (given_in g) → is_some (symbol_at c q) ≡ true → symbol_count c ≤ room_for g → takes same_symbol g.names q ≡ true
  has_room c of there room =
      let e : Entry SymbolRef Name = record { key = q; value = n } in
      let named = All-push (λ (x : Entry SymbolRef Name). is_some (symbol_at c x.key) ≡ true) (entries_of g) e (names_symbols c (entries_of g) of) there in
      let most = at_most_symbols c (entries_of g ++ e ∷ []) still_distinct named in
      let longer = length_push (entries_of g) e in
      ap (λ b. b || ltb (length (entries_of g)) (room_for g)) under_none ∙ lt-ltb (length (entries_of g)) (room_for g) (omega arith)

  no_place : takes same_symbol g.names q ≡ false → NoPlace g q
  no_place refused =
      let l = length-map (entries_of g) given_of in
      let has = is_some (lookup same_symbol (entries_of g) q) in
      let fits = ltb (length (entries_of g)) (room_for g) in
      let r = ltb-false (length (entries_of g)) (room_for g) (or_parts has fits refused).1 in
      (is_none (name_of (given_in g) q) none, omega arith)

  -- what the table answers, and what it holds then
  pub enough : {U : Type 0} (r : Result U Refusal) → is_ok r ≡ takes same_symbol g.names q → (c : Chunk) → OfChunk c (given_in g) → is_some (symbol_at c q) ≡ true → symbol_count c ≤ room_for g → is_ok r ≡ true
  enough r answers c of there room = answers ∙ has_room c of there room

  pub distinct_given : (ok : Bool) (es : List (Entry SymbolRef Name)) → es ≡ cond ok (put same_symbol (entries_of g) q n) (entries_of g) → Distinct es
  distinct_given true es is = subst (λ (xs : List (Entry SymbolRef Name)). Distinct xs) (sym (is ∙ behind)) still_distinct
  distinct_given false es is = subst (λ (xs : List (Entry SymbolRef Name)). Distinct xs) (sym is) g.distinct

  pub named : {U : Type 0} (r : Result U Refusal) (h : GivenNames) → is_ok r ≡ takes same_symbol g.names q → entries_of h ≡ cond (is_ok r) (put same_symbol (entries_of g) q n) (entries_of g) → IfErr r (λ e. (number_of e ≡ 10) × (h.names ≡ g.names)) → MatchResult r (λ _. given_in h ≡ naming (given_in g) q (spelt n)) (λ e. (number_of e ≡ 10) × NoPlace g q × (h ≡ g))
  named (Ok u) h answers is refused = ap (map given_of) (is ∙ behind) ∙ map_push given_of (entries_of g) (record { key = q; value = n }) ∙ sym (cond-false _ _ _ none)
  named (Err e) h answers is refused = (refused.0, no_place (sym answers), same_given h g refused.1)
