-- What a call did, by its answer. Assumes nothing.
use Rattle.std.proofs.Common.{◌≡◌, ℕ, ◌<◌, ◌≤◌, true, List, is_some, Some, sym, refl, ap, ◌∙◌}
use Rattle.keys.specs.declared.refs.SymbolRef.{SymbolRef}
use Rattle.chunk_tables.specs.declared.kind.RootBindingKind.{RootBindingKind}
use Rattle.chunk_tables.specs.Links.{canonical}
use Rattle.chunk_tables.specs.Model.{Name, Chunk}
use Rattle.conflict_resolver.specs.Laws.{Granted, Refused, most_probes}
use Rattle.conflict_resolver.specs.Records.{Record, counter_of}
use Rattle.session_rules.specs.Calls.{Call, reserve, root}
use Rattle.session_rules.specs.Events.{base_of, vetoes_of}
use Rattle.session_rules.specs.Rules.{Told, given, agreed, to_symbol, already, declines}
use Rattle.session_rules.specs.Session.{Given, Session, name_of}
use Rattle.session_rules.proofs.Names.{name_new}
use Rattle.session_rules.proofs.Steps.{Adds, for_symbol, Step, gives, repeats, agrees, refuses}

module _ (c : Chunk) (S : Session) (x : Call) where
  -- what it found, how it was refused, what it repeated
  abbrev pub Found : Name → ℕ → List Record → Type 0
  Found n p es = (b : Name) × (base_of c x ≡ Some b) × Granted (vetoes_of c x) b S.records es n p × (p ≤ most_probes (vetoes_of c x) b S.records)

  abbrev pub Declined : ℕ → Session → Type 0
  Declined why T =
      Refused S.records T.records why × (T.given ≡ S.given) × (why ≡ 12 → (b : Name) × (base_of c x ≡ Some b) × (4096 < most_probes (vetoes_of c x) b S.records))

  abbrev pub Repeated : Name → Session → Type 0
  Repeated n T = (q : SymbolRef) × (k : RootBindingKind) × (x ≡ root q k) × (name_of S.given (canonical c q) ≡ Some n) × (T ≡ S)

  pub on_given : (n : Name) (p : ℕ) {t : Told} → Step c S x t → t.answer ≡ given n p → Found n p t.after.records
  on_given n p (gives b m q es gs is g l a) e =
      let f : m ≡ n = cc in
      let h : q ≡ p = cc in
      (b, is, rw (f, h) at g, rw h at l)
  on_given n p _ e = absurd (cc)

  pub on_declined : (why : ℕ) {t : Told} → Step c S x t → t.answer ≡ declines why → Declined why t.after
  on_declined why (refuses es w r l) e = let f : w ≡ why = cc in (rw f at r, refl, rw f at l)
  on_declined why _ e = absurd (cc)

  pub on_repeated : (n : Name) {t : Told} → Step c S x t → t.answer ≡ already n → Repeated n t.after
  on_repeated n (repeats q k m is f) e = let h : m ≡ n = cc in (q, k, is, f ∙ ap Some h, refl)
  on_repeated n _ e = absurd (cc)

  -- a name that a symbol's call gave is the symbol's
  pub on_named : (r : SymbolRef) (k : RootBindingKind) (n : Name) (p : ℕ) {t : Told} → Step c S x t → t.answer ≡ given n p → x ≡ root r k → name_of t.after.given (canonical c r) ≡ Some n
  on_named r k n p (gives b m q es gs is g l a) e i = on a i
    where
      on : {y : Call} {gs : List Given} → Adds c S m q y gs → y ≡ root r k → name_of gs (canonical c r) ≡ Some n
      on (for_symbol s j y stands top none cand) h =
          let f : s ≡ r = cc in
          let w : m ≡ n = cc in
          ap (λ d. name_of (to_symbol (canonical c s) m S.given) (canonical c d)) (sym f) ∙ name_new S.given (canonical c s) m none ∙ ap Some w
      on _ h = absurd (cc)
  on_named r k n p _ e i = absurd (cc)

  -- a name that was reserved is on record
  pub on_agreed : (n : Name) {t : Told} → Step c S x t → t.answer ≡ agreed → x ≡ reserve n → is_some (counter_of t.after.records n) ≡ true
  on_agreed n (agrees m es is h) e i = let f : m ≡ n = cc in rw f at h.there
  on_agreed n _ e i = absurd (cc)
