-- Which candidates a list of vetoes bars. Assumes nothing.
use Rattle.std.specs.Prelude.{ℕ, Bool, true, not, ◌&&◌, List}
use Rattle.std.specs.List.{list_any}
use Rattle.std.specs.Str.{bytes_eq}
use Rattle.names.specs.Spelt.{spelt}
use Rattle.vetoes.specs.declared.Veto.{Veto}
use Rattle.vetoes.specs.declared.VetoKind.{VetoKind}
use Rattle.vetoes.specs.declared.VetoKind.TheVariants.{Bare, Numbered, Both}

-- whether a kind is about bare candidates, or about numbered ones
abbrev pub covers : VetoKind → Bool → Bool
covers Bare bare = bare
covers Numbered bare = not bare
covers Both bare = true

-- whether a veto is on the candidate c, which is the bare base or not
abbrev pub bars : List ℕ → Bool → Veto → Bool
bars c bare v = bytes_eq (spelt v.name) c && covers v.kind bare

-- whether one of the vetoes is
abbrev pub barred : List Veto → List ℕ → Bool → Bool
barred vs c bare = list_any (bars c bare) vs
