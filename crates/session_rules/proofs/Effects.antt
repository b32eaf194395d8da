-- What each call keeps. Assumes nothing.
use Rattle.std.proofs.Common.{◌≡◌, ℕ, Bool, true, false, ◌==◌, ◌⊎◌, List, is_some, Some, None, refl, sym, ap, subst, ◌∙◌, inl, inr}
use Rattle.keys.specs.declared.refs.SymbolRef.{SymbolRef}
use Rattle.chunk_tables.specs.Links.{canonical}
use Rattle.chunk_tables.specs.Model.{Name, Chunk}
use Rattle.conflict_resolver.specs.Records.{Record, counter_of}
use Rattle.session_rules.specs.Calls.{Call}
use Rattle.reservations.specs.Reserved.{is_reserved}
use Rattle.session_rules.specs.Events.{vetoes_of}
use Rattle.session_rules.specs.Laws.{OwnName, Opened}
use Rattle.session_rules.specs.Rules.{Told, to_symbol}
use Rattle.session_rules.specs.Session.{Given, Session, session, with_records, name_of}
use Rattle.session_rules.proofs.Lasting.{Later, later_same, later_kept, later_granted, still, unlike}
use Rattle.session_rules.proofs.Names.{name_stays, name_comes, once_more}
use Rattle.session_rules.proofs.Steps.{Adds, for_helper, for_caller, for_symbol, Step, gives, repeats, agrees, refuses}

-- given names whose records are lost in no step: they stay as they are, or one is added
grown_records : (c : Chunk) (S : Session) (es : List Record) → Later S.records es → Opened c S → Opened c (with_records S es)
grown_records c S es l o = record {
  recorded = λ q n e. still S.records es n l (o.recorded q n e);
  once = o.once;
  apart = o.apart;
  own = o.own;
  reserved = λ n e. still S.records es n l (o.reserved n e);
  spared = o.spared;
}

module _ (c : Chunk) (S : Session) (o : Opened c S) (es : List Record) (l : Later S.records es) (q : SymbolRef) (n : Name) (new : OwnName c q n)
    (none : name_of S.given q ≡ None) (unrecorded : counter_of S.records n ≡ None) (recorded : counter_of es n ≡ Some 0) where
  -- a name that a symbol had is another than the new one
  differs : (r : SymbolRef) (m : Name) → name_of S.given r ≡ Some m → m ≡ n → ⊥
  differs r m e = unlike S.records n m unrecorded (o.recorded r m e)

  added_name : Opened c (session es (to_symbol q n S.given))
  added_name = record {
    recorded = λ r m e. on_record r m (name_comes S.given q r n m e);
    once = once_more S.given q n none o.once;
    apart = λ r s m k ne e f. apart r s m k ne (name_comes S.given q r n m e) (name_comes S.given q s n k f);
    own = λ r m e. own r m (name_comes S.given q r n m e);
    reserved = λ m e. still S.records es m l (o.reserved m e);
    spared = λ r m e. spared r m (name_comes S.given q r n m e);
  }
    where
      on_record : (r : SymbolRef) (m : Name) → (name_of S.given r ≡ Some m) ⊎ ((q ≡ r) × (n ≡ m)) → is_some (counter_of es m) ≡ true
      on_record r m (inl e) = still S.records es m l (o.recorded r m e)
      on_record r m (inr e) = ap (λ d. is_some (counter_of es d)) (sym e.1) ∙ ap is_some recorded

      apart : (r s : SymbolRef) (m k : Name) → (r ≡ s → ⊥) → (name_of S.given r ≡ Some m) ⊎ ((q ≡ r) × (n ≡ m)) → (name_of S.given s ≡ Some k) ⊎ ((q ≡ s) × (n ≡ k)) → m ≡ k → ⊥
      apart r s m k ne (inl e) (inl f) g = o.apart r s m k ne e f g
      apart r s m k ne (inl e) (inr f) g = differs r m e (g ∙ sym f.1)
      apart r s m k ne (inr e) (inl f) g = differs s k f (sym g ∙ sym e.1)
      apart r s m k ne (inr e) (inr f) g = ne (sym e.0 ∙ f.0)

      own : (r : SymbolRef) (m : Name) → (name_of S.given r ≡ Some m) ⊎ ((q ≡ r) × (n ≡ m)) → OwnName c r m
      own r m (inl e) = o.own r m e
      own r m (inr e) = subst (λ s. OwnName c s m) e.0 (subst (OwnName c q) e.1 new)

      -- what is reserved is on record already
      free : (b : Bool) → is_reserved c n ≡ b → is_reserved c n ≡ false
      free true e = absurd (unlike S.records n n unrecorded (o.reserved n e) refl)
      free false e = e

      spared : (r : SymbolRef) (m : Name) → (name_of S.given r ≡ Some m) ⊎ ((q ≡ r) × (n ≡ m)) → is_reserved c m ≡ false
      spared r m (inl e) = o.spared r m e
      spared r m (inr e) = ap (is_reserved c) (sym e.1) ∙ free (is_reserved c n) refl

module _ (c : Chunk) (S : Session) (x : Call) where
  -- nothing is lost
  pub keeps_records : {t : Told} → Step c S x t → Later S.records t.after.records
  keeps_records (gives b n p es gs is g l a) = later_granted _ b S.records es n p g
  keeps_records (repeats q k n is e) = later_same S.records
  keeps_records (agrees n es is h) = h.later
  keeps_records (refuses es why r l) = later_kept S.records es r.kept

  adds_no_change : (q : SymbolRef) (m n : Name) (p : ℕ) {y : Call} {gs : List Given} → Adds c S n p y gs → name_of S.given q ≡ Some m → name_of gs q ≡ Some m
  adds_no_change q m n p (for_helper b) e = e
  adds_no_change q m n p (for_caller v b) e = e
  adds_no_change q m n p (for_symbol r k y stands top none is) e = name_stays S.given (canonical c r) q n m e

  pub keeps_names : (q : SymbolRef) (m : Name) {t : Told} → Step c S x t → name_of S.given q ≡ Some m → name_of t.after.given q ≡ Some m
  keeps_names q m (gives b n p es gs is g l a) e = adds_no_change q m n p a e
  keeps_names q m _ e = e

  pub keeps_opened : {t : Told} → Step c S x t → Opened c S → Opened c t.after
  keeps_opened (gives b n p es gs is g m a) o = on (later_granted _ b S.records es n p g) a g.unvetoed
    where
      on : Later S.records es → {y : Call} {gs : List Given} → Adds c S n p y gs → vetoes_of c y n (p == 0) ≡ false → Opened c (session es gs)
      on l (for_helper b) h = grown_records c S es l o
      on l (for_caller v b) h = grown_records c S es l o
      on l (for_symbol q k y stands top none cand) h =
          let own : OwnName c (canonical c q) n = record { symbol = y; stands = stands; root = top; probes = p; candidate = cand; kind = k; unvetoed = h } in
          added_name c S o es l (canonical c q) n own none g.unrecorded g.recorded
  keeps_opened (repeats q k n is e) o = o
  keeps_opened (agrees n es is h) o = grown_records c S es h.later o
  keeps_opened (refuses es why r l) o = grown_records c S es (later_kept S.records es r.kept) o
