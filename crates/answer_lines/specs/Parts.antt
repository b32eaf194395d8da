-- Parts of a line. Assumes nothing.
use Rattle.std.specs.Prelude.{ℕ, List, decimal}
use Rattle.answer_lines.specs.declared.part.Part.{Part}
use Rattle.answer_lines.specs.declared.part.Part.TheVariants.{Text, Number}

-- a text is itself, and a number its digits
abbrev pub part_text : Part → List ℕ
part_text (Text t) = t.now
part_text (Number n) = decimal n
