-- What the calls of a session answer, in the words of the rules, with the session S after them. Assumes nothing.
use Rattle.std.specs.Prelude.{Ok, Err, Result}
use Rattle.names.specs.Refusals.{number_of}
use Rattle.names.specs.Spelt.{spelt}
use Rattle.names.specs.declared.refusal.Refusal.{Refusal}
use Rattle.conflict_resolver.specs.declared.resolver.search.Resolved.{Resolved}
use Rattle.session_rules.specs.Rules.{Answer, Told, given, already, agreed, declines, answers}
use Rattle.session_rules.specs.Session.{Session}
use Rattle.renamer.specs.declared.renamer.naming.TopLevelName.{TopLevelName}
use Rattle.renamer.specs.declared.renamer.naming.TopLevelName.TheVariants.{Given, Already}

abbrev pub name_answered : Result TopLevelName Refusal → Answer
name_answered (Ok (Given r)) = given (spelt r.name) r.probes
name_answered (Ok (Already n)) = already (spelt n)
name_answered (Err e) = declines (number_of e)

abbrev pub search_answered : Result Resolved Refusal → Answer
search_answered (Ok r) = given (spelt r.name) r.probes
search_answered (Err e) = declines (number_of e)

abbrev pub end_answered : Result (Unit {0}) Refusal → Answer
end_answered (Ok u) = agreed
end_answered (Err e) = declines (number_of e)

abbrev pub told_name : Result TopLevelName Refusal → Session → Told
told_name r S = answers (name_answered r) S

abbrev pub told_search : Result Resolved Refusal → Session → Told
told_search r S = answers (search_answered r) S

abbrev pub told_end : Result (Unit {0}) Refusal → Session → Told
told_end r S = answers (end_answered r) S
