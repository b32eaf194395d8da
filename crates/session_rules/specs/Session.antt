-- What a session has given and has on record. Assumes nothing.
use Rattle.std.specs.Prelude.{Bool, cond, ◌&&◌, List, [], ◌∷◌, Some, None, Option, ◌==◌}
use Rattle.keys.specs.declared.refs.SymbolRef.{SymbolRef}
use Rattle.chunk_tables.specs.Model.{Name}
use Rattle.conflict_resolver.specs.Records.{Record}

-- a symbol, and the name that it was given at the top level of the chunk
pub record Given : Type 0 where
  pub symbol : SymbolRef
  pub name : Name

-- the records and the given names, each in the order in which they came
pub record Session : Type 0 where
  pub records : List Record
  pub given : List Given

abbrev pub session : List Record → List Given → Session
session es gs = record { records = es; given = gs }

-- a session that has given no name yet
abbrev pub unnamed : List Record → Session
unnamed es = session es []

-- the session with other records
abbrev pub with_records : Session → List Record → Session
with_records S es = session es S.given

abbrev pub same_symbol : SymbolRef → SymbolRef → Bool
same_symbol p q = (p.owner == q.owner) && (p.symbol == q.symbol)

-- the name that a symbol was given
abbrev pub name_of : List Given → SymbolRef → Option Name
name_of [] q = None
name_of (g ∷ gs) q = cond (same_symbol g.symbol q) (Some g.name) (name_of gs q)
