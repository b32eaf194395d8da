-- Lists of calls of an open session. Assumes nothing.
use Rattle.std.specs.Prelude.{Bool, List, [], ◌∷◌}
use Rattle.keys.specs.declared.refs.SymbolRef.{SymbolRef}
use Rattle.chunk_tables.specs.declared.kind.RootBindingKind.{RootBindingKind}
use Rattle.chunk_tables.specs.Model.{Name, Chunk}
use Rattle.policies.specs.File.{file_vetoes}
use Rattle.session_rules.specs.Session.{Session}
use Rattle.session_rules.specs.Rules.{Told, root_named, policy_named, name_reserved}

-- a call: reserve a name, name a symbol, draw a helper for a hint, seek a name under a caller's policy
pub data Call : Type 0 where
  reserve : Name → Call
  root : SymbolRef → RootBindingKind → Call
  helper : Name → Call
  policy : (Name → Bool → Bool) → Name → Call

-- what a call answers and leaves
abbrev pub told : Chunk → Session → Call → Told
told c S (reserve n) = name_reserved c S n
told c S (root q k) = root_named c S q k
told c S (helper b) = policy_named (file_vetoes c) c S b
told c S (policy v b) = policy_named v c S b

-- what a list of calls leaves
abbrev pub after_all : Chunk → Session → List Call → Session
after_all c S [] = S
after_all c S (x ∷ xs) = after_all c (told c S x).after xs

-- what is told of each call of a list
abbrev pub told_all : Chunk → Session → List Call → List Told
told_all c S [] = []
told_all c S (x ∷ xs) = told c S x ∷ told_all c (told c S x).after xs
