-- Records in the order of their names. Assumes nothing.
use Rattle.std.specs.Prelude.{◌≡◌, false, List, length}
use Rattle.std.specs.List.{AllAdjacentBelow}
use Rattle.keys.specs.Names.{name_under}
use Rattle.conflict_resolver.specs.declared.resolver.NameRecord.{NameRecord}

-- no name stands behind one that is above it, by the bytes of both
abbrev pub Ascending : List NameRecord → Type 0
Ascending rs = AllAdjacentBelow (λ x y. name_under y.name x.name ≡ false) rs (length rs)
