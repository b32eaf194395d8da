-- A worked session: what each call is told. Assumes nothing.
use Rattle.std.specs.Prelude.{◌≡◌, ℕ, true, false, List, [], ◌∷◌, Some, None, Option, map, codes}
use Rattle.keys.specs.declared.refs.SymbolRef.{SymbolRef}
use Rattle.chunk_tables.specs.declared.kind.RootBindingKind.TheVariants.{Authored, Synthesized}
use Rattle.chunk_tables.specs.declared.parts.ModuleKind.TheVariants.{Normal}
use Rattle.chunk_tables.specs.Model.{Name, Symbol, Module, Chunk}
use Rattle.session_rules.specs.Calls.{Call, reserve, root, helper, policy, told_all}
use Rattle.session_rules.specs.Rules.{Answer, given, already, agreed, declines}
use Rattle.session_rules.specs.Session.{Session, unnamed}

abbrev symbol : ℕ → ℕ → SymbolRef
symbol m s = record { owner = m; symbol = s }

abbrev bound : Name → ℕ → Option SymbolRef → Symbol
bound n s l = record { name = n; scope = s; bound = true; link = l; alias = None }

abbrev module_of : List Symbol → Module
module_of ys = record {
  kind = Normal;
  order = 0;
  wrapped = false;
  hot = None;
  this = None;
  default = None;
  dynamic_import = false;
  file_url = false;
  uses_module = false;
  uses_either = false;
  parents = 0 ∷ 0 ∷ [];
  symbols = ys;
  references = [];
  shims = [];
  imports = [];
  unresolved = [];
  statements = [];
}

-- two modules: `a` at the top and `b` below it; `a` at the top, an import of the other `a`, and `a$1` below the top
abbrev example : Chunk
example = record {
  format = 1;
  records = 5;
  globals = [];
  runtime = None;
  modules = module_of (bound (codes "a") 0 None ∷ bound (codes "b") 1 None ∷ [])
      ∷ module_of (bound (codes "a") 0 None ∷ bound (codes "c") 0 (Some (symbol 0 0)) ∷ bound (codes "a$1") 1 None ∷ []) ∷ [];
  members = 0 ∷ 1 ∷ [];
  direct = [];
  entry_level = [];
  indirect = [];
  entry = [];
  used = [];
  synthetic = [];
  others = [];
}

abbrev at_first : Session
at_first = unnamed []

-- the calls in their order, each with what it is answered
pub record Line : Type 0 where
  pub call : Call
  pub answer : Answer

abbrev worked : List Line
worked =
    record { call = root (symbol 0 0) Authored; answer = given (codes "a") 0 }
    ∷ record { call = root (symbol 0 0) Authored; answer = already (codes "a") }
    ∷ record { call = root (symbol 1 1) Synthesized; answer = already (codes "a") }
    ∷ record { call = root (symbol 1 0) Authored; answer = given (codes "a$2") 2 }
    ∷ record { call = root (symbol 0 1) Authored; answer = declines 9 }
    ∷ record { call = root (symbol 1 9) Authored; answer = declines 8 }
    ∷ record { call = helper (codes "b"); answer = given (codes "b$1") 1 }
    ∷ record { call = helper []; answer = declines 7 }
    ∷ record { call = reserve (codes "x"); answer = agreed }
    ∷ record { call = policy (λ n bare. bare) (codes "x"); answer = given (codes "x$1") 1 }
    ∷ record { call = reserve (codes "x"); answer = agreed }
    ∷ record { call = helper (codes "y"); answer = declines 10 }
    ∷ []

abbrev pub Worked : Type 0
Worked = map (λ t. t.answer) (told_all example at_first (map (λ l. l.call) worked)) ≡ map (λ l. l.answer) worked
