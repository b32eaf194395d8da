-- What a search answers. Assumes nothing.
use Rattle.std.specs.Prelude.{ℕ, List, ◌∷◌, ◌++◌, decimal}
use Rattle.names.specs.Spelt.{spelt}
use Rattle.conflict_resolver.specs.declared.resolver.search.Resolved.{Resolved}
use Rattle.answer_lines.specs.Lines.{line}

-- the name that was found, and the probes that it took
abbrev pub found_line : Resolved → List ℕ
found_line r = line (spelt r.name ++ 32 ∷ decimal r.probes)
