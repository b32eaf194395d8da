-- What a call that is about helpers answers, in the words of the rules. Assumes nothing.
use Rattle.std.specs.Prelude.{Result}
use Rattle.names.specs.declared.refusal.Refusal.{Refusal}
use Rattle.session_rules.specs.Helpers.{Drawn}
use Rattle.renamer.specs.Answers.{told_name}
use Rattle.renamer.specs.State.{session_of, helpers_of}
use Rattle.renamer.specs.declared.renamer.Renamer.{Renamer}
use Rattle.renamer.specs.declared.renamer.naming.TopLevelName.{TopLevelName}

-- the answer, with the session s after it
abbrev pub drawn_as : Result TopLevelName Refusal → Renamer → Drawn
drawn_as r s = record { told = told_name r (session_of s); helpers = helpers_of s }
