use Rattle.std.proofs.Common.{rules, tests, refl}
use Rattle.std.proofs.lemmas.Iterator.Consumers.{YieldsList-from_first}
use Rattle.chunk_tables.specs.Cursor.{to_come}
use Rattle.chunk_tables.proofs.Mapped.{find_map_from_yields_List}
use Rattle.chunk_tables.proofs.bindings.nearest_among.Goals as goal

pub returns : goal.returns
returns g c =
    find_map_from_yields_List _ _ c.find_map.result c.find_map.ensures.runs (YieldsList-from_first (λ x. x) to_come _ refl) (λ x o q k. search (rules, tests))
