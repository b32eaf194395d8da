-- What writing a text behind what was written leaves. Assumes nothing.
use Rattle.std.specs.Prelude.{◌≡◌, ℕ, ◌+◌, ◌<◌, ◌≤◌, List, ◌++◌, Result, MatchResult, length}
use Rattle.std.specs.Global.{Vec}
use Rattle.std.specs.declared.alloc.AllocError.{AllocError}
use Rattle.std.specs.Result.{OnErr}
use Rattle.std.specs.Vec.{vec_capacity}

-- the text stands behind what was there. Where memory runs out, some of it may, from its front on; and memory runs out only
-- where there was no room for all of it
pub record Writes (was is : Vec ℕ) (answer : Result (Unit {0}) AllocError) (text : List ℕ) : Type 0 where
  pub items : MatchResult answer (λ _. is.items ≡ was.items ++ text)
      (λ _. (written rest : List ℕ) × (text ≡ written ++ rest) × (is.items ≡ was.items ++ written))
  pub refused : OnErr answer (vec_capacity was < length was.items + length text)
  pub capacity : vec_capacity was ≤ vec_capacity is
