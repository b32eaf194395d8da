-- Calls that are refused early, and symbols that can be named. Assumes nothing.
use Rattle.std.proofs.Common.{◌≡◌, ℕ, ◌<◌, Bool, true, false, cond, length, is_some, Some, None, Option, Ok, Err, Result, eqb, refl, ap, ◌∙◌, arith}
use Rattle.names.specs.Bases.{is_base}
use Rattle.keys.specs.declared.refs.SymbolRef.{SymbolRef}
use Rattle.chunk_tables.specs.Links.{symbol_at, canonical}
use Rattle.chunk_tables.specs.Lists.{maybe}
use Rattle.chunk_tables.specs.Model.{Name, Symbol, Chunk}
use Rattle.conflict_resolver.proofs.Reservations.{reserve_no_name}
use Rattle.conflict_resolver.proofs.Searches.{no_base}
use Rattle.session_rules.specs.Rules.{declines, answers, found, to_nobody, settles, policy_named, name_reserved}
use Rattle.session_rules.specs.Session.{Session}
use Rattle.renamer.specs.Rooted.{root_of}

no_long_base : (b : Name) → 105 < length b → is_base b ≡ false
no_long_base b h = grind (arith)

pub long_search : (v : Name → Bool → Bool) (c : Chunk) (S : Session) (b : Name) (why : ℕ) → why ≡ 7 → 105 < length b → answers (declines why) S ≡ policy_named v c S b
long_search v c S b why w h = ap (λ k. answers (declines k) S) w ∙ ap (found to_nobody S) (no_base v b c.records S.records (no_long_base b h))

pub long_reservation : (c : Chunk) (S : Session) (b : Name) (why : ℕ) → why ≡ 7 → 105 < length b → answers (declines why) S ≡ name_reserved c S b
long_reservation c S b why w h = ap (λ k. answers (declines k) S) w ∙ ap (settles S) (reserve_no_name c.records S.records b (no_long_base b h))

-- a canonical symbol with its own name, and two answers that are the same
abbrev pub Rooted : Type 0
Rooted = SymbolRef × Name

abbrev pub Same : Result Rooted ℕ → Result Rooted ℕ → Type 0
Same a b = a ≡ b

-- a symbol that can be named is a symbol of the chunk
pub root_there : (c : Chunk) (q : SymbolRef) (r : Rooted) → Same (Ok r) (root_of c q) → is_some (symbol_at c r.0) ≡ true
root_there c q r = on (symbol_at c q)
  where
    last : (y : Symbol) → symbol_at c (canonical c q) ≡ Some y → (b : Bool) → Same (Ok r) (cond b (Ok (canonical c q, y.name)) (Err 9)) → is_some (symbol_at c r.0) ≡ true
    last y e true h = ap (λ o. is_some (symbol_at c (root o))) h ∙ ap is_some e
      where
        root : Result Rooted ℕ → SymbolRef
        root (Ok x) = x.0
        root (Err k) = canonical c q
    last y e false h = absurd cc

    end : (o : Option Symbol) → symbol_at c (canonical c q) ≡ o → Same (Ok r) (maybe o (Err 8) (λ y. cond (eqb y.scope 0) (Ok (canonical c q, y.name)) (Err 9))) → is_some (symbol_at c r.0) ≡ true
    end None e h = absurd cc
    end (Some y) e h = last y e (eqb y.scope 0) h

    on : (o : Option Symbol) → Same (Ok r) (maybe o (Err 8) (λ x. maybe (symbol_at c (canonical c q)) (Err 8) (λ y. cond (eqb y.scope 0) (Ok (canonical c q, y.name)) (Err 9)))) → is_some (symbol_at c r.0) ≡ true
    on None h = absurd cc
    on (Some x) h = end (symbol_at c (canonical c q)) refl h
