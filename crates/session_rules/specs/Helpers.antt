-- The helpers of other chunks: each chunk has one, which is drawn once. Assumes nothing.
use Rattle.std.specs.Prelude.{ℕ, cond, List, [], ◌∷◌, ◌++◌, Some, None, Option, ◌==◌}
use Rattle.std.specs.List.{slice_get}
use Rattle.chunk_tables.specs.Lists.{maybe}
use Rattle.chunk_tables.specs.Model.{Name, OtherChunk, Chunk}
use Rattle.hints.specs.Hints.{hint}
use Rattle.session_rules.specs.Calls.{helper, told}
use Rattle.session_rules.specs.Rules.{Answer, given, already, agreed, declines, Told, unchanged}
use Rattle.session_rules.specs.Session.{Session}

-- the number of another chunk, and the name of its helper
pub record Helper : Type 0 where
  pub chunk : ℕ
  pub name : Name

-- the name of the helper of the chunk with a number
abbrev pub helper_of : List Helper → ℕ → Option Name
helper_of [] n = None
helper_of (h ∷ hs) n = cond (h.chunk == n) (Some h.name) (helper_of hs n)

-- what a call that is about helpers is told, and the helpers that it leaves
pub record Drawn : Type 0 where
  pub told : Told
  pub helpers : List Helper

-- a name that is given is noted as the helper of the chunk with a number; any other answer leaves the helpers as they are
abbrev pub noted : List Helper → ℕ → Answer → List Helper
noted hs n (given m p) = hs ++ record { chunk = n; name = m } ∷ []
noted hs n (already m) = hs
noted hs n agreed = hs
noted hs n (declines why) = hs

abbrev pub noting : List Helper → ℕ → Told → Drawn
noting hs n t = record { told = t; helpers = noted hs n t.answer }

-- the helper of another chunk: the one that it has, or else one that is drawn after its hint
abbrev pub helper_drawn : Chunk → Session → List Helper → OtherChunk → Drawn
helper_drawn c S hs o =
    maybe (helper_of hs o.number) (noting hs o.number (told c S (helper (hint o.name)))) (λ n. noting hs o.number (unchanged S (already n)))

-- that of the other chunk at a place of the list; a place that is none is refused with 2
abbrev pub helper_at : Chunk → Session → List Helper → ℕ → Drawn
helper_at c S hs k = maybe (slice_get c.others k) (noting hs k (unchanged S (declines 2))) (helper_drawn c S hs)
