-- What a cursor over scopes has yet to give. Assumes nothing.
use Rattle.std.specs.Prelude.{ℕ, List, [], map}
use Rattle.chunk_tables.specs.Lists.{maybe}
use Rattle.chunk_tables.specs.Scopes.{ancestors}
use Rattle.chunk_tables.specs.View.{parent_of}
use Rattle.chunk_tables.specs.declared.scopes.Ancestors.{Ancestors}

-- the scopes from the one at which it stands
abbrev pub to_come : Ancestors → List ℕ
to_come a = maybe a.at [] (ancestors (map parent_of a.scopes.now) a.root)
