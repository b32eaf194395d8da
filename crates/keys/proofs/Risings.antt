-- What a walk over neighbours answers, when they are asked by an order. Assumes nothing.
use Rattle.std.proofs.Common.{◌≡◌, Bool, true, false, List, [], ◌∷◌, ◌<◌, length, Decides, sym, refl, ◌∙◌, arith}
use Rattle.std.specs.List.{IsAllAdjacentAnswer}
use Rattle.std.proofs.lemmas.Bool.{false≢true}
use Rattle.keys.specs.Order.{Rising}

first : {K : Type 0} (ks : List K) → 0 < length ks → K
first [] l = absurd (omega arith)
first (k ∷ ks) l = k

pub rising_told : {K : Type 0} (under : K → K → Bool) (ks : List K) (r : Bool) → IsAllAdjacentAnswer (λ x y b. b ≡ under x y) ks r → Decides r (Rising under ks)
rising_told under ks true up = (λ _ k d l. sym (up k d l), λ _. refl)
rising_told under ks false fall = (
  λ e. absurd (false≢true e),
  λ up. let l = fall.1 in let d = first ks (omega arith) in absurd (false≢true (fall.2 d ∙ up fall.0 d fall.1)),
)
