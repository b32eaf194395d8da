-- The laws of the calls of an open session. Assumes nothing.
use Rattle.std.proofs.Common.{◌≡◌, ◌<◌, true, List, is_some, Some, sym, ap}
use Rattle.std.proofs.lemmas.Option.{none-some}
use Rattle.keys.specs.declared.refs.SymbolRef.{SymbolRef}
use Rattle.chunk_tables.specs.Model.{Name, Chunk}
use Rattle.conflict_resolver.specs.Records.{counter_of}
use Rattle.session_rules.specs.Calls.{Call, told, after_all}
use Rattle.session_rules.specs.Events.{Event, Happens, Giving, Refusing, Naming, Reserving}
use Rattle.session_rules.specs.Laws.{Kept, NothingElse, Opened, StaysOpened, Apart, Fresh, Unvetoed, FromItsOwnName, Bounded, Untouched, ReservedNeverGiven}
use Rattle.session_rules.specs.Session.{Session, session, name_of}
use Rattle.session_rules.proofs.Effects.{keeps_records, keeps_names, keeps_opened}
use Rattle.session_rules.proofs.Lasting.{Later, later_same, later_trans, still, unlike}
use Rattle.session_rules.proofs.Runs.{at_the_end, on_the_way, between, to_the_end, each}
use Rattle.session_rules.proofs.Origins.{names_from, records_from}
use Rattle.session_rules.proofs.Steps.{Step, step}
use Rattle.session_rules.proofs.ByAnswer.{Found, Declined, on_given, on_declined, on_repeated, on_named, on_agreed}

module _ (c : Chunk) (S : Session) (xs : List Call) where
  stepped : (h : Happens c S xs) → Step c h.before h.call (record { answer = h.answer; after = h.after })
  stepped h = each c (λ (e : Event). Step c e.before e.call (record { answer = e.answer; after = e.after })) (step c) S xs h.place h.is h.found

  gave : (g : Giving c S xs) → Found c g.before g.call g.name g.probes g.after.records
  gave g = on_given c g.before g.call g.name g.probes (stepped g.at) g.gives

  declined : (r : Refusing c S xs) → Declined c r.before r.call r.why r.after
  declined r = on_declined c r.before r.call r.why (stepped r.at) r.refuses

  later_all : Later S.records (after_all c S xs).records
  later_all = at_the_end c (λ T. Later S.records T.records) (λ T x l. later_trans S.records T.records _ l (keeps_records c T x (step c T x))) S xs (later_same S.records)

-- a name on record stays there, and a symbol's name stays its name
abbrev OnRecord : Name → Session → Type 0
OnRecord n T = is_some (counter_of T.records n) ≡ true

stays_on_record : (c : Chunk) (n : Name) (T : Session) (x : Call) → OnRecord n T → OnRecord n (told c T x).after
stays_on_record c n T x = still T.records _ n (keeps_records c T x (step c T x))

abbrev IsNamed : SymbolRef → Name → Session → Type 0
IsNamed q n T = name_of T.given q ≡ Some n

stays_named : (c : Chunk) (q : SymbolRef) (n : Name) (T : Session) (x : Call) → IsNamed q n T → IsNamed q n (told c T x).after
stays_named c q n T x = keeps_names c T x q n (step c T x)

-- from an event on
named : (c : Chunk) (S : Session) (xs : List Call) (q : SymbolRef) (n : Name) → Naming c S xs q n → IsNamed q n (after_all c S xs)
named c S xs q n h =
    let g = h.giving in
    let e = on_named c g.before g.call h.asked h.kind g.name g.probes (stepped c S xs g.at) g.gives h.call in
    to_the_end c (IsNamed q n) (stays_named c q n) S xs g.place g.is g.found (rw (h.symbol, h.name) at e)

reserved : (c : Chunk) (S : Session) (xs : List Call) (n : Name) → Reserving c S xs n → OnRecord n (after_all c S xs)
reserved c S xs n h =
    to_the_end c (OnRecord n) (stays_on_record c n) S xs h.at.place h.at.is h.at.found (on_agreed c h.at.before h.at.call n (stepped c S xs h.at) h.agrees h.call)

-- a name is not on record before it is given, and is then
pub fresh : Fresh
fresh c S xs g = let (b, is, h, l) = gave c S xs g in (h.unrecorded, h.recorded)

recorded : (c : Chunk) (S : Session) (xs : List Call) (g : Giving c S xs) → OnRecord g.name g.after
recorded c S xs g = ap is_some (fresh c S xs g).1

pub kept : Kept
kept = record {
  names = λ c S xs q n. at_the_end c (IsNamed q n) (stays_named c q n) S xs;
  given = named;
  recorded = λ c S xs g. to_the_end c (OnRecord g.name) (stays_on_record c g.name) S xs g.place g.is g.found (recorded c S xs g);
  reserved = reserved;
  records = λ c S xs. (later_all c S xs).held;
  once = λ c S xs. (later_all c S xs).once;
  limited = λ c S xs. (later_all c S xs).limited;
}

pub nothing_else : NothingElse
nothing_else = record { names = names_from; records = records_from }

opened_after : (c : Chunk) (S : Session) (xs : List Call) → Opened c S → Opened c (after_all c S xs)
opened_after c = at_the_end c (Opened c) (λ T x. keeps_opened c T x (step c T x))

pub stays_opened : StaysOpened
stays_opened = record {
  at_first = λ c es h. record {
    recorded = λ q n e. absurd (none-some n e);
    once = λ j k g h e. absurd (none-some g e);
    apart = λ q r n m ne e. absurd (none-some n e);
    own = λ q n e. absurd (none-some n e);
    reserved = h;
    spared = λ q n e. absurd (none-some n e);
  };
  later = opened_after;
}

pub unvetoed : Unvetoed
unvetoed c S xs g = let (b, is, h, l) = gave c S xs g in h.unvetoed

pub from_its_own_name : FromItsOwnName
from_its_own_name = record {
  givings = λ c S xs g. let (b, is, h, l) = gave c S xs g in (b, is, h.candidate);
  symbols = λ c S xs o. (opened_after c S xs o).own;
}

pub bounded : Bounded
bounded = record {
  probes = λ c S xs g. let (b, is, h, l) = gave c S xs g in (b, is, l);
  too_long = λ c S xs r. (declined c S xs r).2;
}

same_session : (S T : Session) → T.records ≡ S.records → T.given ≡ S.given → T ≡ S
same_session S T e f = λ i. session (e i) (f i)

pub untouched : Untouched
untouched = record {
  told_again = λ c S xs h n. on_repeated c h.before h.call n (stepped c S xs h);
  unchanged = λ c S xs r l. let (f, e, t) = declined c S xs r in same_session r.before r.after (f.unchanged l) e;
  given_same = λ c S xs r. (declined c S xs r).1;
  unrecorded = λ c S xs r. (declined c S xs r).0.kept;
}

givings_apart : (c : Chunk) (S : Session) (xs : List Call) (g h : Giving c S xs) → g.place < h.place → g.name ≡ h.name → ⊥
givings_apart c S xs g h l =
    unlike h.before.records h.name g.name (fresh c S xs h).0
    (between c (OnRecord g.name) (stays_on_record c g.name) S xs g.place h.place g.is h.is l g.found h.found (recorded c S xs g))

pub apart : Apart
apart = record { givings = givings_apart; symbols = λ c S xs o. (opened_after c S xs o).apart }

pub reserved_never_given : ReservedNeverGiven
reserved_never_given c S xs n k e g f =
    unlike g.before.records g.name n (fresh c S xs g).0 (on_the_way c (OnRecord n) (stays_on_record c n) S xs (ap is_some e) g.place g.is g.found) (sym f)
