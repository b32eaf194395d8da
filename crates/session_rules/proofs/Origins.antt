-- Where names come from. Assumes nothing.
use Rattle.std.proofs.Common.{◌≡◌, ℕ, suc, Bool, true, false, ◌⊎◌, List, [], ◌∷◌, is_some, Some, refl, sym, ap, ◌∙◌, inl, inr}
use Rattle.std.specs.Str.{bytes_eq}
use Rattle.std.proofs.lemmas.Bool.{both_ways}
use Rattle.std.proofs.lemmas.Slice.Eq.{bytes_eq-Decides}
use Rattle.keys.specs.declared.refs.SymbolRef.{SymbolRef}
use Rattle.chunk_tables.specs.declared.kind.RootBindingKind.{RootBindingKind}
use Rattle.chunk_tables.specs.Links.{canonical}
use Rattle.chunk_tables.specs.Model.{Name, Chunk}
use Rattle.conflict_resolver.specs.Records.{counter_of}
use Rattle.conflict_resolver.proofs.Lookups.{grown_some, same_true}
use Rattle.session_rules.specs.Calls.{Call, reserve, root, told, after_all}
use Rattle.session_rules.specs.Events.{event, Happens, Giving, Naming, Reserving}
use Rattle.session_rules.specs.Rules.{Told, given, agreed, answers}
use Rattle.session_rules.specs.Session.{Given, Session, session, with_records, name_of}
use Rattle.session_rules.proofs.Names.{name_comes}
use Rattle.session_rules.proofs.Steps.{Adds, for_helper, for_caller, for_symbol, Step, gives, repeats, agrees, refuses, step}

module _ (c : Chunk) (S : Session) (x : Call) where
  -- the call gives the symbol q the name n
  abbrev Names : SymbolRef → Name → Told → Type 0
  Names q n t = (p : ℕ) × (r : SymbolRef) × (k : RootBindingKind) × (t.answer ≡ given n p) × (x ≡ root r k) × (canonical c r ≡ q)

  -- the call gives or reserves the name n
  abbrev Brings : Name → Told → Type 0
  Brings n t = ((p : ℕ) × (t.answer ≡ given n p)) ⊎ ((x ≡ reserve n) × (t.answer ≡ agreed))

  adds_name : (q : SymbolRef) (n m : Name) (p : ℕ) {y : Call} {gs : List Given} → Adds c S m p y gs → name_of gs q ≡ Some n
      → (name_of S.given q ≡ Some n) ⊎ ((r : SymbolRef) × (k : RootBindingKind) × (m ≡ n) × (y ≡ root r k) × (canonical c r ≡ q))
  adds_name q n m p (for_helper b) e = inl e
  adds_name q n m p (for_caller v b) e = inl e
  adds_name q n m p (for_symbol r k y stands top none is) e = on (name_comes S.given (canonical c r) q m n e)
    where
      on : (name_of S.given q ≡ Some n) ⊎ ((canonical c r ≡ q) × (m ≡ n)) → (name_of S.given q ≡ Some n) ⊎ ((s : SymbolRef) × (j : RootBindingKind) × (m ≡ n) × (root r k ≡ root s j) × (canonical c s ≡ q))
      on (inl f) = inl f
      on (inr f) = inr (r, k, f.1, refl, f.0)

  name_from : (q : SymbolRef) (n : Name) {t : Told} → Step c S x t → name_of t.after.given q ≡ Some n → (name_of S.given q ≡ Some n) ⊎ Names q n t
  name_from q n (gives b m p es gs is g l a) e = on (adds_name q n m p a e)
    where
      on : (name_of S.given q ≡ Some n) ⊎ ((r : SymbolRef) × (k : RootBindingKind) × (m ≡ n) × (x ≡ root r k) × (canonical c r ≡ q))
          → (name_of S.given q ≡ Some n) ⊎ Names q n (answers (given m p) (session es gs))
      on (inl f) = inl f
      on (inr (r, k, f, h, i)) = inr (p, r, k, ap (λ d. given d p) f, h, i)
  name_from q n _ e = inl e

  record_from : (n : Name) {t : Told} → Step c S x t → is_some (counter_of t.after.records n) ≡ true → (is_some (counter_of S.records n) ≡ true) ⊎ Brings n t
  record_from n (gives b m p es gs is g l a) e = on (bytes_eq n m) refl
    where
      on : (t : Bool) → bytes_eq n m ≡ t → (is_some (counter_of S.records n) ≡ true) ⊎ Brings n (answers (given m p) (session es gs))
      on true f = inr (inl (p, ap (λ d. given d p) (sym ((bytes_eq-Decides n m).0 f))))
      on false f = inl (sym (grown_some (counter_of S.records n) (counter_of es n) (g.others n (λ h. both_ways _ f (same_true n m h)))) ∙ e)
  record_from n (repeats q k m is f) e = inl e
  record_from n (agrees m es is h) e = on (bytes_eq n m) refl
    where
      on : (t : Bool) → bytes_eq n m ≡ t → (is_some (counter_of S.records n) ≡ true) ⊎ Brings n (answers agreed (with_records S es))
      on true f = inr (inr (is ∙ ap reserve (sym ((bytes_eq-Decides n m).0 f)), refl))
      on false f = inl (ap is_some (sym (h.others n (λ i. both_ways _ f (same_true n m i)))) ∙ e)
  record_from n (refuses es why r l) e = inl (sym (grown_some (counter_of S.records n) (counter_of es n) (r.kept.grown n)) ∙ e)

module _ (c : Chunk) (S : Session) (x : Call) (xs : List Call) where
  -- the first event, and those behind it
  abbrev first : Happens c S (x ∷ xs)
  first = record { place = 0; is = event c S x; found = refl }

  abbrev moved : Happens c (told c S x).after xs → Happens c S (x ∷ xs)
  moved h = record { place = suc h.place; is = h.is; found = h.found }

  abbrev moved_giving : Giving c (told c S x).after xs → Giving c S (x ∷ xs)
  moved_giving g = record { at = moved g.at; name = g.name; probes = g.probes; gives = g.gives }

  moved_naming : (q : SymbolRef) (n : Name) → Naming c (told c S x).after xs q n → Naming c S (x ∷ xs) q n
  moved_naming q n h = record { giving = moved_giving h.giving; asked = h.asked; kind = h.kind; call = h.call; symbol = h.symbol; name = h.name }

  abbrev first_giving : (n : Name) (p : ℕ) → (told c S x).answer ≡ given n p → Giving c S (x ∷ xs)
  first_giving n p e = record { at = first; name = n; probes = p; gives = e }

module _ (c : Chunk) where
  pub names_from : (S : Session) (xs : List Call) (q : SymbolRef) (n : Name) → name_of (after_all c S xs).given q ≡ Some n → (name_of S.given q ≡ Some n) ⊎ Naming c S xs q n
  names_from S [] q n e = inl e
  names_from S (x ∷ xs) q n e = on (names_from (told c S x).after xs q n e)
    where
      here : (name_of S.given q ≡ Some n) ⊎ Names c S x q n (told c S x) → (name_of S.given q ≡ Some n) ⊎ Naming c S (x ∷ xs) q n
      here (inl f) = inl f
      here (inr (p, r, k, f, h, i)) = inr (record { giving = first_giving c S x xs n p f; asked = r; kind = k; call = h; symbol = i; name = refl })

      on : (name_of (told c S x).after.given q ≡ Some n) ⊎ Naming c (told c S x).after xs q n → (name_of S.given q ≡ Some n) ⊎ Naming c S (x ∷ xs) q n
      on (inl f) = here (name_from c S x q n (step c S x) f)
      on (inr h) = inr (moved_naming c S x xs q n h)

  -- a name that is on record at the end
  abbrev Origin : Session → List Call → Name → Type 0
  Origin S xs n = (is_some (counter_of S.records n) ≡ true) ⊎ (((g : Giving c S xs) × (g.name ≡ n)) ⊎ Reserving c S xs n)

  pub records_from : (S : Session) (xs : List Call) (n : Name) → is_some (counter_of (after_all c S xs).records n) ≡ true → Origin S xs n
  records_from S [] n e = inl e
  records_from S (x ∷ xs) n e = on (records_from (told c S x).after xs n e)
    where
      here : (is_some (counter_of S.records n) ≡ true) ⊎ Brings c S x n (told c S x) → Origin S (x ∷ xs) n
      here (inl f) = inl f
      here (inr (inl (p, f))) = inr (inl (first_giving c S x xs n p f, refl))
      here (inr (inr (h, f))) = inr (inr (record { at = first c S x xs; call = h; agrees = f }))

      on : Origin (told c S x).after xs n → Origin S (x ∷ xs) n
      on (inl f) = here (record_from c S x n (step c S x) f)
      on (inr (inl (g, f))) = inr (inl (moved_giving c S x xs g, f))
      on (inr (inr h)) = inr (inr (record { at = moved c S x xs h.at; call = h.call; agrees = h.agrees }))
