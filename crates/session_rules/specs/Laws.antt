-- What holds of every list of calls of an open session, from whatever state S on. Assumes nothing.
use Rattle.std.specs.Prelude.{◌≡◌, ℕ, ◌<◌, ◌≤◌, false, List, is_some, true, Some, None, ◌==◌, ◌≢◌, ◌⊎◌}
use Rattle.std.specs.List.{slice_get}
use Rattle.keys.specs.declared.refs.SymbolRef.{SymbolRef}
use Rattle.chunk_tables.specs.declared.kind.RootBindingKind.{RootBindingKind}
use Rattle.chunk_tables.specs.Links.{symbol_at, canonical}
use Rattle.chunk_tables.specs.Model.{Name, Symbol, Chunk}
use Rattle.conflict_resolver.specs.Laws.{Candidate, Limited, most_probes, Kept as NothingRecorded}
use Rattle.conflict_resolver.specs.Records.{Record, counter_of, Apart as Once}
use Rattle.reservations.specs.Reserved.{is_reserved}
use Rattle.session_rules.specs.Calls.{Call, root, after_all}
use Rattle.session_rules.specs.Events.{Happens, Giving, Refusing, Naming, Reserving, base_of, vetoes_of}
use Rattle.session_rules.specs.Rules.{already}
use Rattle.session_rules.specs.Session.{Given, Session, unnamed, name_of}
use Rattle.session_rules.specs.Vetoes.{kind_vetoes}

-- nothing is lost: a symbol's name stays its name, and so does one that it is given; a name stays on record, and its counter
-- does not fall; so does one that is given or reserved; nor does a name come on record twice, or a counter pass 9,999
pub record Kept : Type 0 where
  pub names : (c : Chunk) (S : Session) (xs : List Call) (q : SymbolRef) (n : Name)
      → name_of S.given q ≡ Some n → name_of (after_all c S xs).given q ≡ Some n
  pub given : (c : Chunk) (S : Session) (xs : List Call) (q : SymbolRef) (n : Name)
      → Naming c S xs q n → name_of (after_all c S xs).given q ≡ Some n
  pub records : (c : Chunk) (S : Session) (xs : List Call) (n : Name) (k : ℕ)
      → counter_of S.records n ≡ Some k → (m : ℕ) × (k ≤ m) × (counter_of (after_all c S xs).records n ≡ Some m)
  pub recorded : (c : Chunk) (S : Session) (xs : List Call) (g : Giving c S xs) → is_some (counter_of (after_all c S xs).records g.name) ≡ true
  pub reserved : (c : Chunk) (S : Session) (xs : List Call) (n : Name)
      → Reserving c S xs n → is_some (counter_of (after_all c S xs).records n) ≡ true
  pub once : (c : Chunk) (S : Session) (xs : List Call) → Once S.records → Once (after_all c S xs).records
  pub limited : (c : Chunk) (S : Session) (xs : List Call) → Limited S.records → Limited (after_all c S xs).records

-- nothing comes of itself: a name that a symbol has at the end is one that it had or is given, and a name that is on record
-- at the end was there, or is given or reserved
pub record NothingElse : Type 0 where
  pub names : (c : Chunk) (S : Session) (xs : List Call) (q : SymbolRef) (n : Name)
      → name_of (after_all c S xs).given q ≡ Some n → (name_of S.given q ≡ Some n) ⊎ Naming c S xs q n
  pub records : (c : Chunk) (S : Session) (xs : List Call) (n : Name) → is_some (counter_of (after_all c S xs).records n) ≡ true
      → (is_some (counter_of S.records n) ≡ true) ⊎ (((g : Giving c S xs) × (g.name ≡ n)) ⊎ Reserving c S xs n)

-- the symbol q stands in a root; n is its own name, found without a probe, or a numbered form of that, and the policy of a kind
-- does not veto it
pub record OwnName (c : Chunk) (q : SymbolRef) (n : Name) : Type 0 where
  pub symbol : Symbol
  pub stands : symbol_at c q ≡ Some symbol
  pub root : symbol.scope ≡ 0
  pub probes : ℕ
  pub candidate : Candidate symbol.name n probes
  pub kind : RootBindingKind
  pub unvetoed : kind_vetoes c q kind n (probes == 0) ≡ false

-- of a session: each given name is on record, no symbol is named twice, no two symbols have one name, and each stands in a root
-- and has its own; the reserved names are on record, and none was given
pub record Opened (c : Chunk) (S : Session) : Type 0 where
  pub recorded : (q : SymbolRef) (n : Name) → name_of S.given q ≡ Some n → is_some (counter_of S.records n) ≡ true
  pub once : (j k : ℕ) (g h : Given) → slice_get S.given j ≡ Some g → slice_get S.given k ≡ Some h → g.symbol ≡ h.symbol → j ≡ k
  pub apart : (q r : SymbolRef) (n m : Name) → q ≢ r → name_of S.given q ≡ Some n → name_of S.given r ≡ Some m → n ≢ m
  pub own : (q : SymbolRef) (n : Name) → name_of S.given q ≡ Some n → OwnName c q n
  pub reserved : (n : Name) → is_reserved c n ≡ true → is_some (counter_of S.records n) ≡ true
  pub spared : (q : SymbolRef) (n : Name) → name_of S.given q ≡ Some n → is_reserved c n ≡ false

-- it holds before any name is given, where the reserved names are on record, and whatever is called then
pub record StaysOpened : Type 0 where
  pub at_first : (c : Chunk) (es : List Record) → ((n : Name) → is_reserved c n ≡ true → is_some (counter_of es n) ≡ true)
      → Opened c (unnamed es)
  pub later : (c : Chunk) (S : Session) (xs : List Call) → Opened c S → Opened c (after_all c S xs)

-- no name is given twice, and two symbols have two names
pub record Apart : Type 0 where
  pub givings : (c : Chunk) (S : Session) (xs : List Call) (g h : Giving c S xs) → g.place < h.place → g.name ≢ h.name
  pub symbols : (c : Chunk) (S : Session) (xs : List Call) → Opened c S → (q r : SymbolRef) (n m : Name) → q ≢ r
      → name_of (after_all c S xs).given q ≡ Some n → name_of (after_all c S xs).given r ≡ Some m → n ≢ m

-- a name that is given was not on record before, and is on record then with counter 0
abbrev pub Fresh : Type 0
Fresh = (c : Chunk) (S : Session) (xs : List Call) (g : Giving c S xs)
    → (counter_of g.before.records g.name ≡ None) × (counter_of g.after.records g.name ≡ Some 0)

-- the call's policy does not veto it, as a bare name just where there was no probe
abbrev pub Unvetoed : Type 0
Unvetoed = (c : Chunk) (S : Session) (xs : List Call) (g : Giving c S xs) → vetoes_of c g.call g.name (g.probes == 0) ≡ false

-- it is the call's base, found without a probe, or a numbered form of the base; so a symbol's name is its own or a numbered
-- form of that
pub record FromItsOwnName : Type 0 where
  pub givings : (c : Chunk) (S : Session) (xs : List Call) (g : Giving c S xs)
      → (b : Name) × (base_of c g.call ≡ Some b) × Candidate b g.name g.probes
  pub symbols : (c : Chunk) (S : Session) (xs : List Call) → Opened c S → (q : SymbolRef) (n : Name)
      → name_of (after_all c S xs).given q ≡ Some n → OwnName c q n

-- the probes are bounded by what is on record and what is vetoed, and a search is too long only where the bound passes 4,096
pub record Bounded : Type 0 where
  pub probes : (c : Chunk) (S : Session) (xs : List Call) (g : Giving c S xs)
      → (b : Name) × (base_of c g.call ≡ Some b) × (g.probes ≤ most_probes (vetoes_of c g.call) b g.before.records)
  pub too_long : (c : Chunk) (S : Session) (xs : List Call) (r : Refusing c S xs) → r.why ≡ 12
      → (b : Name) × (base_of c r.call ≡ Some b) × (4096 < most_probes (vetoes_of c r.call) b r.before.records)

-- where no name is given: a symbol that has a name is told that name, and nothing changes; a refusal gives nothing, records
-- nothing and lowers no counter, and changes nothing at all unless it comes from a limit of the search (11, 12)
pub record Untouched : Type 0 where
  pub told_again : (c : Chunk) (S : Session) (xs : List Call) (e : Happens c S xs) (n : Name) → e.answer ≡ already n
      → (q : SymbolRef) × (k : RootBindingKind) × (e.call ≡ root q k) × (name_of e.before.given (canonical c q) ≡ Some n) × (e.after ≡ e.before)
  pub unchanged : (c : Chunk) (S : Session) (xs : List Call) (r : Refusing c S xs) → r.why < 11 → r.after ≡ r.before
  pub given_same : (c : Chunk) (S : Session) (xs : List Call) (r : Refusing c S xs) → r.after.given ≡ r.before.given
  pub unrecorded : (c : Chunk) (S : Session) (xs : List Call) (r : Refusing c S xs) → NothingRecorded r.before.records r.after.records

-- a name that is on record at the start, as the reserved names are, is given to nobody
abbrev pub ReservedNeverGiven : Type 0
ReservedNeverGiven = (c : Chunk) (S : Session) (xs : List Call) (n : Name) (k : ℕ)
    → counter_of S.records n ≡ Some k → (g : Giving c S xs) → g.name ≢ n
