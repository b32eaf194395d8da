-- Which symbols of a chunk can be named at the top level. Assumes nothing.
use Rattle.std.specs.Prelude.{ℕ, cond, Ok, Err, Result, ◌==◌}
use Rattle.names.specs.Refusals.{number_of}
use Rattle.names.specs.Spelt.{spelt}
use Rattle.names.specs.declared.name.Name as names
use Rattle.names.specs.declared.refusal.Refusal.{Refusal}
use Rattle.keys.specs.declared.refs.SymbolRef.{SymbolRef}
use Rattle.chunk_tables.specs.Links.{symbol_at, canonical}
use Rattle.chunk_tables.specs.Lists.{maybe}
use Rattle.chunk_tables.specs.Model.{Name, Chunk}

-- the canonical symbol of one, with its own name; refused with 8 where there is no such symbol, and with 9 where the
-- canonical one does not stand in a root
abbrev pub root_of : Chunk → SymbolRef → Result (SymbolRef × Name) ℕ
root_of c q =
    maybe (symbol_at c q) (Err 8)
    (λ x. maybe (symbol_at c (canonical c q)) (Err 8) (λ y. cond (y.scope == 0) (Ok (canonical c q, y.name)) (Err 9)))

-- an answer, seen by texts and numbers
abbrev pub seen : Result (SymbolRef × names.Name) Refusal → Result (SymbolRef × Name) ℕ
seen (Ok r) = Ok (r.0, spelt r.1)
seen (Err e) = Err (number_of e)
