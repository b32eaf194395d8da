-- What each call of an open session answers, and what it leaves. Assumes nothing.
use Rattle.std.specs.Prelude.{ℕ, Bool, cond, List, [], ◌∷◌, ◌++◌, ◌==◌}
use Rattle.keys.specs.declared.refs.SymbolRef.{SymbolRef}
use Rattle.chunk_tables.specs.declared.kind.RootBindingKind.{RootBindingKind}
use Rattle.chunk_tables.specs.Links.{symbol_at, canonical}
use Rattle.chunk_tables.specs.Lists.{maybe}
use Rattle.chunk_tables.specs.Model.{Name, Symbol, Chunk}
use Rattle.conflict_resolver.specs.Rules.{Outcome, granted, refused, searched, Reservation, made, declined, reserved}
use Rattle.session_rules.specs.Session.{Given, Session, session, with_records, name_of}
use Rattle.session_rules.specs.Vetoes.{kind_vetoes}

-- an answer: a name that is given now, with its probes; the name that the symbol has; that all is done; or a refusal
pub data Answer : Type 0 where
  given : Name → ℕ → Answer
  already : Name → Answer
  agreed : Answer
  declines : ℕ → Answer

pub record Told : Type 0 where
  pub answer : Answer
  pub after : Session

-- the answer a, with the session S after it
abbrev pub answers : Answer → Session → Told
answers a S = record { answer = a; after = S }

-- nothing has changed
abbrev pub unchanged : Session → Answer → Told
unchanged S a = answers a S

-- how a search ends: a name that is found is what was asked for; `gives` adds it to the given names, where it is a symbol's
abbrev pub found : (Name → List Given → List Given) → Session → Outcome → Told
found gives S (granted es n p) = answers (given n p) (session es (gives n S.given))
found gives S (refused es why) = answers (declines why) (with_records S es)

abbrev pub to_nobody : Name → List Given → List Given
to_nobody n gs = gs

abbrev pub to_symbol : SymbolRef → Name → List Given → List Given
to_symbol q n gs = gs ++ record { symbol = q; name = n } ∷ []

-- a search for a base, where the chunk says how many names may be on record
abbrev pub sought : (Name → Bool → Bool) → Chunk → Session → Name → Outcome
sought vetoes c S b = searched vetoes b c.records S.records

-- a name for a canonical symbol that has none: its own name is the base
abbrev pub named_now : Chunk → Session → SymbolRef → RootBindingKind → Symbol → Told
named_now c S q k y = found (to_symbol q) S (sought (kind_vetoes c q k) c S y.name)

-- of a canonical symbol: it stands in a root, or the call is refused with 9; a name that it has is its name
abbrev pub named_in_root : Chunk → Session → SymbolRef → RootBindingKind → Symbol → Told
named_in_root c S q k y =
    cond (y.scope == 0) (maybe (name_of S.given q) (named_now c S q k y) (λ n. unchanged S (already n))) (unchanged S (declines 9))

-- a name for a symbol at the top level is its canonical symbol's; where there is no such symbol, the call is refused with 8
abbrev pub root_named : Chunk → Session → SymbolRef → RootBindingKind → Told
root_named c S q k =
    maybe (symbol_at c q) (unchanged S (declines 8))
    (λ x. maybe (symbol_at c (canonical c q)) (unchanged S (declines 8)) (named_in_root c S (canonical c q) k))

-- a name for a base under a policy, which is no symbol's
abbrev pub policy_named : (Name → Bool → Bool) → Chunk → Session → Name → Told
policy_named vetoes c S b = found to_nobody S (sought vetoes c S b)

-- how a reservation ends
abbrev pub settles : Session → Reservation → Told
settles S (made es) = answers agreed (with_records S es)
settles S (declined es why) = answers (declines why) (with_records S es)

abbrev pub name_reserved : Chunk → Session → Name → Told
name_reserved c S n = settles S (reserved c.records S.records n)
