-- What a name spells. Assumes nothing.
use Rattle.std.specs.Prelude.{ℕ, List, take}
use Rattle.names.specs.declared.name.Name.{Name}

-- the text of a name; what the buffer holds behind it does not count
abbrev pub spelt : Name → List ℕ
spelt n = take n.len n.bytes
