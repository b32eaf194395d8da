-- What holds of a session's names stays so over each call. Assumes nothing.
use Rattle.std.proofs.Common.{◌≡◌, ℕ, Bool, true, false, cond, List, [], ◌∷◌, is_some, Some, None, Option, Ok, Err, Result, eqb, refl, sym, ap, subst, ◌∙◌, MatchResult}
use mathlib.Core.Logic.{∥∥₁_map}
use Rattle.std.proofs.lemmas.List.Elements.{All-push}
use Rattle.names.specs.Spelt.{spelt}
use Rattle.names.specs.declared.refusal.Refusal.{Refusal}
use Rattle.keys.specs.declared.refs.SymbolRef.{SymbolRef}
use Rattle.chunk_tables.specs.declared.kind.RootBindingKind.{RootBindingKind}
use Rattle.chunk_tables.specs.Links.{symbol_at, canonical}
use Rattle.chunk_tables.specs.Lists.{maybe}
use Rattle.chunk_tables.specs.Model.{Name, Symbol, Chunk}
use Rattle.conflict_resolver.specs.Answers.{answered, settled}
use Rattle.conflict_resolver.specs.Records.{Record}
use Rattle.conflict_resolver.specs.Rules.{searched, reserved}
use Rattle.conflict_resolver.specs.declared.resolver.search.Resolved.{Resolved}
use Rattle.given_names.specs.Held.{naming, OfChunk}
use Rattle.session_rules.specs.Calls.{Call, reserve, root, policy, told}
use Rattle.session_rules.specs.Laws.{Opened}
use Rattle.session_rules.specs.Rules.{already, declines, unchanged, found, to_nobody, to_symbol, settles, sought, named_now, named_in_root}
use Rattle.session_rules.specs.Session.{Session, session, Given, name_of}
use Rattle.session_rules.specs.Vetoes.{kind_vetoes}
use Rattle.session_rules.proofs.Lawful.{stays_opened}
use Rattle.renamer.specs.Rooted.{root_of}
use Rattle.renamer.proofs.Endings.{Rooted, Same}

abbrev rooted : Rooted → Result Rooted ℕ → Rooted
rooted d (Ok x) = x
rooted d (Err e) = d

module _ (c : Chunk) (S : Session) (opened : ∥ Opened c S ∥₁) where
  abbrev StillOpened : List Record → List Given → Type 0
  StillOpened es gs = ∥ Opened c (session es gs) ∥₁

  over : (x : Call) → ∥ Opened c (told c S x).after ∥₁
  over x = ∥∥₁_map opened (stays_opened.later c S (x ∷ []))

  -- a search that is nobody's
  pub over_search : (v : Name → Bool → Bool) (b : Name) (n : ℕ) (o : Result Resolved Refusal) (es : List Record) → n ≡ c.records → answered o es ≡ searched v b n S.records → StillOpened es S.given
  over_search v b n o es m e = after o (subst (λ w. ∥ Opened c (found to_nobody S w).after ∥₁) (sym (e ∙ ap (λ k. searched v b k S.records) m)) (over (policy v b)))
    where
      after : (o : Result Resolved Refusal) → ∥ Opened c (found to_nobody S (answered o es)).after ∥₁ → StillOpened es S.given
      after (Ok r) h = h
      after (Err k) h = h

  pub over_reservation : (b : Name) (n : ℕ) (o : Result (Unit {0}) Refusal) (es : List Record) → n ≡ c.records → settled o es ≡ reserved n S.records b → StillOpened es S.given
  over_reservation b n o es m e = after o (subst (λ w. ∥ Opened c (settles S w).after ∥₁) (sym (e ∙ ap (λ k. reserved k S.records b) m)) (over (reserve b)))
    where
      after : (o : Result (Unit {0}) Refusal) → ∥ Opened c (settles S (settled o es)).after ∥₁ → StillOpened es S.given
      after (Ok u) h = h
      after (Err k) h = h

  -- a symbol's name, where it has none yet
  module _ (q : SymbolRef) (k : RootBindingKind) where
    named_last : (p : SymbolRef) (r : Rooted) (y : Symbol) (b : Bool) → Same (Ok r) (cond b (Ok (p, y.name)) (Err 9)) → name_of S.given r.0 ≡ None
        → cond b (maybe (name_of S.given p) (named_now c S p k y) (λ n. unchanged S (already n))) (unchanged S (declines 9)) ≡ found (to_symbol r.0) S (sought (kind_vetoes c r.0 k) c S r.1)
    named_last p r y true h u =
        let e : r ≡ (p, y.name) = ap (rooted r) h in
        let w : name_of S.given p ≡ None = subst (λ s. name_of S.given s.0 ≡ None) e u in
        rw (w, e) refl
    named_last p r y false h u = absurd cc

    named_next : (p : SymbolRef) (r : Rooted) (o : Option Symbol) → Same (Ok r) (maybe o (Err 8) (λ y. cond (eqb y.scope 0) (Ok (p, y.name)) (Err 9))) → name_of S.given r.0 ≡ None
        → maybe o (unchanged S (declines 8)) (named_in_root c S p k) ≡ found (to_symbol r.0) S (sought (kind_vetoes c r.0 k) c S r.1)
    named_next p r None h u = absurd cc
    named_next p r (Some y) h u = named_last p r y (eqb y.scope 0) h u

    named_first : (r : Rooted) (o : Option Symbol) → Same (Ok r) (maybe o (Err 8) (λ x. maybe (symbol_at c (canonical c q)) (Err 8) (λ y. cond (eqb y.scope 0) (Ok (canonical c q, y.name)) (Err 9)))) → name_of S.given r.0 ≡ None
        → maybe o (unchanged S (declines 8)) (λ x. maybe (symbol_at c (canonical c q)) (unchanged S (declines 8)) (named_in_root c S (canonical c q) k)) ≡ found (to_symbol r.0) S (sought (kind_vetoes c r.0 k) c S r.1)
    named_first r None h u = absurd cc
    named_first r (Some x) h u = named_next (canonical c q) r (symbol_at c (canonical c q)) h u

    pub over_root : (r : Rooted) (n : ℕ) (f : Resolved) (es : List Record) → Same (Ok r) (root_of c q) → name_of S.given r.0 ≡ None
        → n ≡ c.records → answered (Ok f) es ≡ searched (kind_vetoes c r.0 k) r.1 n S.records → StillOpened es (to_symbol r.0 (spelt f.name) S.given)
    over_root r n f es h u m e =
        let t = named_first r (symbol_at c q) h u ∙ ap (found (to_symbol r.0) S) (sym (e ∙ ap (λ k'. searched (kind_vetoes c r.0 k) r.1 k' S.records) m)) in
        subst (λ w. ∥ Opened c w.after ∥₁) t (over (root q k))

    -- the same, where the answer of giving it tells whether it was given
    pub over_given : (r : Rooted) (f : Resolved) (es : List Record) (o : Result (Unit {0}) Refusal) (gs hs : List Given) {E : Refusal → Type 0} → Same (Ok r) (root_of c q) → name_of S.given r.0 ≡ None
        → answered (Ok f) es ≡ searched (kind_vetoes c r.0 k) r.1 c.records S.records → gs ≡ S.given
        → ((e : Refusal) → E e → hs ≡ gs) → MatchResult o (λ u. hs ≡ naming gs r.0 (spelt f.name)) E → StillOpened es hs
    over_given r f es (Ok x) gs hs h u e same back g =
        let n : naming S.given r.0 (spelt f.name) ≡ to_symbol r.0 (spelt f.name) S.given = rw u refl in
        subst (StillOpened es) (sym (g ∙ ap (λ ns. naming ns r.0 (spelt f.name)) same ∙ n)) (over_root r c.records f es h u refl e)
    over_given r f es (Err x) gs hs h u e same back g =
        subst (StillOpened es) (sym (back x g ∙ same)) (over_search (kind_vetoes c r.0 k) r.1 c.records (Ok f) es refl e)

-- the symbols that have names stay those of the chunk
pub still_of_chunk : (c : Chunk) (q : SymbolRef) (n : Name) (o : Result (Unit {0}) Refusal) (gs hs : List Given) {E : Refusal → Type 0} → is_some (symbol_at c q) ≡ true
    → ((e : Refusal) → E e → hs ≡ gs) → MatchResult o (λ u. hs ≡ naming gs q n) E → OfChunk c gs → OfChunk c hs
still_of_chunk c q n (Ok x) gs hs t back g a = subst (OfChunk c) (sym g) (on (is_some (name_of gs q)))
  where
    on : (b : Bool) → OfChunk c (cond b gs (to_symbol q n gs))
    on true = a
    on false = All-push (λ x. is_some (symbol_at c x.symbol) ≡ true) gs (record { symbol = q; name = n }) a t
still_of_chunk c q n (Err x) gs hs t back g a = subst (OfChunk c) (sym (back x g)) a
