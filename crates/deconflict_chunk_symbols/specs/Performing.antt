-- Calls performed one after another on an open session. Assumes nothing.
use Rattle.std.specs.Prelude.{◌≡◌, ℕ, List, [], ◌∷◌, Result, flat_map, drop}
use Rattle.names.specs.declared.refusal.Refusal.{Refusal}
use Rattle.chunk_tables.specs.Model.{Chunk}
use Rattle.session_rules.specs.Calls.{Call, told}
use Rattle.session_rules.specs.Rules.{Answer, given, already, agreed, declines, Told, answers, unchanged}
use Rattle.session_rules.specs.Session.{Session}
use Rattle.renamer.specs.Answers.{told_end}
use Rattle.renamer.specs.State.{chunk_in, session_of, Keeps}
use Rattle.renamer.specs.declared.renamer.Renamer.{Renamer}

-- after an answer and the session that it left, the calls go on there, or end with its refusal
abbrev pub following : Answer → Session → (Session → Told) → Told
following (given n p) S go = go S
following (already n) S go = go S
following agreed S go = go S
following (declines why) S go = answers (declines why) S

abbrev pub then_on : Told → (Session → Told) → Told
then_on t go = following t.answer t.after go

-- each call is performed on the session that the one before it left
abbrev pub perform_each : Chunk → Session → List Call → Told
perform_each c S [] = unchanged S agreed
perform_each c S (x ∷ xs) = then_on (told c S x) (λ T. perform_each c T xs)

-- what performing the calls leaves of a session r, and what it answers
pub record Performs (r s : Renamer) (answer : Result (Unit {0}) Refusal) (calls : List Call) : Type 0 where
  pub rules : told_end answer (session_of s) ≡ perform_each (chunk_in r) (session_of r) calls
  pub keeps : Keeps r s

-- in a loop over a list of which each element asks for calls: those of the elements from the place i on, performed on the
-- session s, come to what those of all come to on the session r of the start
pub record Midway {X : Type 0} (calls : Chunk → X → List Call) (xs : List X) (i : ℕ) (r s : Renamer) : Type 0 where
  pub rules :
      perform_each (chunk_in r) (session_of s) (flat_map (calls (chunk_in r)) (drop i xs))
      ≡ perform_each (chunk_in r) (session_of r) (flat_map (calls (chunk_in r)) xs)
  pub keeps : Keeps r s
