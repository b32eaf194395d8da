-- What happens in a list of calls of an open session. Assumes nothing.
use Rattle.std.specs.Prelude.{◌≡◌, ℕ, Bool, false, List, [], ◌∷◌, Some, None, Option}
use Rattle.std.specs.List.{slice_get}
use Rattle.keys.specs.declared.refs.SymbolRef.{SymbolRef}
use Rattle.chunk_tables.specs.declared.kind.RootBindingKind.{RootBindingKind}
use Rattle.chunk_tables.specs.Links.{symbol_at, canonical}
use Rattle.chunk_tables.specs.Lists.{maybe}
use Rattle.chunk_tables.specs.Model.{Name, Chunk}
use Rattle.policies.specs.File.{file_vetoes}
use Rattle.session_rules.specs.Calls.{Call, reserve, root, helper, policy, told}
use Rattle.session_rules.specs.Rules.{Answer, given, agreed, declines}
use Rattle.session_rules.specs.Session.{Session}
use Rattle.session_rules.specs.Vetoes.{kind_vetoes}

-- a call, the session in which it is made, what it is answered, and the session that it leaves
pub record Event : Type 0 where
  pub before : Session
  pub call : Call
  pub answer : Answer
  pub after : Session

abbrev pub event : Chunk → Session → Call → Event
event c S x = record { before = S; call = x; answer = (told c S x).answer; after = (told c S x).after }

-- the events of calls that are made one after another
abbrev pub events : Chunk → Session → List Call → List Event
events c S [] = []
events c S (x ∷ xs) = event c S x ∷ events c (told c S x).after xs

-- the event with a place among those of the calls xs from session S on
pub record Happens (c : Chunk) (S : Session) (xs : List Call) : Type 0 where
  pub place : ℕ
  pub is : Event
  pub open is use *
  pub found : slice_get (events c S xs) place ≡ Some is

-- one that gives a name
pub record Giving (c : Chunk) (S : Session) (xs : List Call) : Type 0 where
  pub at : Happens c S xs
  pub open at use *
  pub name : Name
  pub probes : ℕ
  pub gives : at.answer ≡ given name probes

-- one that is refused
pub record Refusing (c : Chunk) (S : Session) (xs : List Call) : Type 0 where
  pub at : Happens c S xs
  pub open at use *
  pub why : ℕ
  pub refuses : at.answer ≡ declines why

-- one that gives a symbol q a name n, which was asked for by a symbol whose canonical symbol is q
pub record Naming (c : Chunk) (S : Session) (xs : List Call) (q : SymbolRef) (n : Name) : Type 0 where
  pub giving : Giving c S xs
  pub asked : SymbolRef
  pub kind : RootBindingKind
  pub call : giving.call ≡ root asked kind
  pub symbol : canonical c asked ≡ q
  pub name : giving.name ≡ n

-- one that reserves a name n
pub record Reserving (c : Chunk) (S : Session) (xs : List Call) (n : Name) : Type 0 where
  pub at : Happens c S xs
  pub call : at.call ≡ reserve n
  pub agrees : at.answer ≡ agreed

-- the base for which a call seeks a name: a symbol's is the name of its canonical symbol
abbrev pub base_of : Chunk → Call → Option Name
base_of c (reserve n) = None
base_of c (root q k) = maybe (symbol_at c (canonical c q)) None (λ y. Some y.name)
base_of c (helper b) = Some b
base_of c (policy v b) = Some b

-- the policy under which it is sought: a symbol's goes by the kind, a helper's is the file policy
abbrev pub vetoes_of : Chunk → Call → Name → Bool → Bool
vetoes_of c (reserve n) = λ m bare. false
vetoes_of c (root q k) = kind_vetoes c (canonical c q) k
vetoes_of c (helper b) = file_vetoes c
vetoes_of c (policy v b) = v
