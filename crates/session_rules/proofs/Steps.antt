-- What a call does, by how it ends. Assumes nothing.
use Rattle.std.proofs.Common.{◌≡◌, ℕ, ◌<◌, ◌≤◌, Bool, true, false, cond, ◌==◌, List, Some, None, Option, refl, ap, arith}
use Rattle.std.proofs.lemmas.Bool.{eqb-true}
use Rattle.keys.specs.declared.refs.SymbolRef.{SymbolRef}
use Rattle.chunk_tables.specs.declared.kind.RootBindingKind.{RootBindingKind}
use Rattle.chunk_tables.specs.Links.{symbol_at, canonical}
use Rattle.chunk_tables.specs.Lists.{maybe}
use Rattle.chunk_tables.specs.Model.{Name, Symbol, Chunk}
use Rattle.conflict_resolver.specs.Laws.{Candidate, Granted, Refused, Sound, Bounded, most_probes}
use Rattle.conflict_resolver.specs.Records.{Record, counter_of}
use Rattle.conflict_resolver.specs.Rules.{Outcome, granted, refused, searched, Reservation}
use Rattle.conflict_resolver.proofs.Lookups.{grown_same}
use Rattle.conflict_resolver.proofs.Reservations.{Ends, nameless, recorded, full, new, ends}
use Rattle.conflict_resolver.proofs.Searches.{sound_of, bounded_of}
use Rattle.session_rules.specs.Calls.{Call, reserve, root, helper, policy, told}
use Rattle.session_rules.specs.Events.{base_of, vetoes_of}
use Rattle.session_rules.specs.Rules.{Told, given, already, agreed, declines, answers, unchanged, found, to_nobody, to_symbol, named_now, named_in_root, settles}
use Rattle.session_rules.specs.Session.{Given, Session, session, with_records, name_of}
use Rattle.session_rules.proofs.Lasting.{Reserved, reserved_recorded, reserved_new}

-- what a name n that was found adds to the given names
pub data Adds (c : Chunk) (S : Session) (n : Name) (p : ℕ) : Call → List Given → Type 0 where
  for_helper : (b : Name) → Adds c S n p (helper b) S.given
  for_caller : (v : Name → Bool → Bool) (b : Name) → Adds c S n p (policy v b) S.given
  for_symbol : (q : SymbolRef) (k : RootBindingKind) (y : Symbol) → symbol_at c (canonical c q) ≡ Some y → y.scope ≡ 0 → name_of S.given (canonical c q) ≡ None
      → Candidate y.name n p → Adds c S n p (root q k) (to_symbol (canonical c q) n S.given)

pub data Step (c : Chunk) (S : Session) (x : Call) : Told → Type 0 where
  gives : (b n : Name) (p : ℕ) (es : List Record) (gs : List Given) → base_of c x ≡ Some b → Granted (vetoes_of c x) b S.records es n p
      → p ≤ most_probes (vetoes_of c x) b S.records → Adds c S n p x gs → Step c S x (answers (given n p) (session es gs))
  repeats : (q : SymbolRef) (k : RootBindingKind) (n : Name) → x ≡ root q k → name_of S.given (canonical c q) ≡ Some n → Step c S x (unchanged S (already n))
  agrees : (n : Name) (es : List Record) → x ≡ reserve n → Reserved S.records n es → Step c S x (answers agreed (with_records S es))
  refuses : (es : List Record) (why : ℕ) → Refused S.records es why
      → (why ≡ 12 → (b : Name) × (base_of c x ≡ Some b) × (4096 < most_probes (vetoes_of c x) b S.records))
      → Step c S x (answers (declines why) (with_records S es))

-- a refusal before any search
early : (c : Chunk) (S : Session) (x : Call) (why : ℕ) → why < 11 → Step c S x (unchanged S (declines why))
early c S x why l = refuses S.records why
    (record { kept = record { grown = λ d. grown_same (counter_of S.records d); apart = λ a. a; limited = λ h. h }; unchanged = λ h. refl })
    (λ e. absurd (omega arith))

-- a search for the call's base under its policy
searches : (c : Chunk) (S : Session) (x : Call) (b : Name) (adds : Name → List Given → List Given) → base_of c x ≡ Some b
    → ((n : Name) (p : ℕ) → Candidate b n p → Adds c S n p x (adds n S.given)) → Step c S x (found adds S (searched (vetoes_of c x) b c.records S.records))
searches c S x b adds is adding =
    on (searched (vetoes_of c x) b c.records S.records) (sound_of (vetoes_of c x) b c.records S.records _ refl) (bounded_of (vetoes_of c x) b c.records S.records _ refl)
  where
    on : (o : Outcome) → Sound (vetoes_of c x) b S.records o → Bounded (vetoes_of c x) b S.records o → Step c S x (found adds S o)
    on (granted es n p) s l = gives b n p es (adds n S.given) is s l (adding n p s.candidate)
    on (refused es why) s l = refuses es why s (λ e. (b, is, l e))

reserves : (c : Chunk) (S : Session) (n : Name) {o : Reservation} → Ends c.records S.records n o → Step c S (reserve n) (settles S o)
reserves c S n (nameless h) = early c S (reserve n) 7 (omega arith)
reserves c S n (recorded h) = agrees n S.records refl (reserved_recorded S.records n h)
reserves c S n (full h l) = early c S (reserve n) 10 (omega arith)
reserves c S n (new h l) = agrees n _ refl (reserved_new S.records n h)

-- a name for the canonical symbol y
in_root : (c : Chunk) (S : Session) (q : SymbolRef) (k : RootBindingKind) (y : Symbol) → symbol_at c (canonical c q) ≡ Some y
    → Step c S (root q k) (named_in_root c S (canonical c q) k y)
in_root c S q k y e = on (y.scope == 0) (name_of S.given (canonical c q)) refl refl
  where
    on : (top : Bool) (o : Option Name) → (y.scope == 0) ≡ top → name_of S.given (canonical c q) ≡ o
        → Step c S (root q k) (cond top (maybe o (named_now c S (canonical c q) k y) (λ n. unchanged S (already n))) (unchanged S (declines 9)))
    on true None t f = searches c S (root q k) y.name (to_symbol (canonical c q)) (ap (λ o. maybe o None (λ y. Some y.name)) e) (λ n p is. for_symbol q k y e (eqb-true y.scope 0 t) f is)
    on true (Some n) t f = repeats q k n refl f
    on false o t f = early c S (root q k) 9 (omega arith)

pub step : (c : Chunk) (S : Session) (x : Call) → Step c S x (told c S x)
step c S (reserve n) = reserves c S n (ends c.records S.records n)
step c S (root q k) = on (symbol_at c q) (symbol_at c (canonical c q)) refl
  where
    on : (o p : Option Symbol) → symbol_at c (canonical c q) ≡ p
        → Step c S (root q k) (maybe o (unchanged S (declines 8)) (λ x. maybe p (unchanged S (declines 8)) (named_in_root c S (canonical c q) k)))
    on None p e = early c S (root q k) 8 (omega arith)
    on (Some x) None e = early c S (root q k) 8 (omega arith)
    on (Some x) (Some y) e = in_root c S q k y e
step c S (helper b) = searches c S (helper b) b to_nobody refl (λ n p is. for_helper b)
step c S (policy v b) = searches c S (policy v b) b to_nobody refl (λ n p is. for_caller v b)
