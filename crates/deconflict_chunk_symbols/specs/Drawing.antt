-- The helpers that the run of a chunk draws, and the whole run. Assumes nothing.
use Rattle.std.specs.Prelude.{◌≡◌, ℕ, List, [], ◌∷◌, ◌++◌, Result, drop}
use Rattle.names.specs.declared.refusal.Refusal.{Refusal}
use Rattle.chunk_tables.specs.Lists.{maybe}
use Rattle.chunk_tables.specs.Model.{OtherChunk, Chunk}
use Rattle.hints.specs.Hints.{hint}
use Rattle.session_rules.specs.Calls.{Call, helper, told}
use Rattle.session_rules.specs.Helpers.{Helper, Drawn, helper_of, noted, helper_drawn}
use Rattle.session_rules.specs.Rules.{Answer, given, already, agreed, declines, unchanged}
use Rattle.session_rules.specs.Session.{Session}
use Rattle.renamer.specs.Answers.{told_end}
use Rattle.renamer.specs.State.{chunk_in, session_of, helpers_of, Stays}
use Rattle.renamer.specs.declared.renamer.Renamer.{Renamer}
use Rattle.deconflict_chunk_symbols.specs.Performing.{perform_each}
use Rattle.deconflict_chunk_symbols.specs.Run.{naming_calls}

-- after an answer, what is next goes on from the session and the helpers that it left; a refusal ends all
abbrev pub next_drawn : Answer → Drawn → (Session → List Helper → Drawn) → Drawn
next_drawn (given n p) d go = go d.told.after d.helpers
next_drawn (already n) d go = go d.told.after d.helpers
next_drawn agreed d go = go d.told.after d.helpers
next_drawn (declines why) d go = d

abbrev pub drawing_on : Drawn → (Session → List Helper → Drawn) → Drawn
drawing_on d go = next_drawn d.told.answer d go

-- a helper for each of the chunks: the one that it has, or one that is drawn for it
abbrev pub draw_each : Chunk → Session → List Helper → List OtherChunk → Drawn
draw_each c S hs [] = record { told = unchanged S agreed; helpers = hs }
draw_each c S hs (o ∷ os) = drawing_on (helper_drawn c S hs o) (λ T gs. draw_each c T gs os)

-- the run of a chunk: its naming calls, and then a helper for each of the other chunks
abbrev pub run : Chunk → Session → List Helper → Drawn
run c S hs = drawing_on (record { told = perform_each c S (naming_calls c); helpers = hs }) (λ T gs. draw_each c T gs c.others)

-- the calls that drawing comes to: one for each chunk that had no helper
abbrev pub draw_calls : Chunk → Session → List Helper → List OtherChunk → List Call
draw_calls c S hs [] = []
draw_calls c S hs (o ∷ os) =
    maybe (helper_of hs o.number)
    (helper (hint o.name) ∷ draw_calls c (told c S (helper (hint o.name))).after (noted hs o.number (told c S (helper (hint o.name))).answer) os)
    (λ n. draw_calls c S hs os)

-- the calls of the whole run
abbrev pub run_calls : Chunk → Session → List Helper → List Call
run_calls c S hs = naming_calls c ++ draw_calls c (perform_each c S (naming_calls c)).after hs c.others

-- an answer, with the session and the helpers that are left
abbrev pub drawn_end : Result (Unit {0}) Refusal → Renamer → Drawn
drawn_end answer s = record { told = told_end answer (session_of s); helpers = helpers_of s }

-- what drawing the helpers of all other chunks leaves of a session r, and what it answers
pub record Draws (r s : Renamer) (answer : Result (Unit {0}) Refusal) : Type 0 where
  pub rules : drawn_end answer s ≡ draw_each (chunk_in r) (session_of r) (helpers_of r) (chunk_in r).others
  pub stays : Stays r s

-- the first k have their helpers: the others come, from the session s, to what all come to from the session r of the start
pub record DrawnTo (k : ℕ) (r s : Renamer) : Type 0 where
  pub rules :
      draw_each (chunk_in r) (session_of s) (helpers_of s) (drop k (chunk_in r).others)
      ≡ draw_each (chunk_in r) (session_of r) (helpers_of r) (chunk_in r).others
  pub stays : Stays r s

-- what the run of a chunk leaves of a session r, and what it answers
pub record Runs (r s : Renamer) (answer : Result (Unit {0}) Refusal) : Type 0 where
  pub rules : drawn_end answer s ≡ run (chunk_in r) (session_of r) (helpers_of r)
  -- so what holds of every list of calls holds of a run
  pub calls : told_end answer (session_of s) ≡ perform_each (chunk_in r) (session_of r) (run_calls (chunk_in r) (session_of r) (helpers_of r))
  pub stays : Stays r s
