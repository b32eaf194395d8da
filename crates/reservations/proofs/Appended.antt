-- Reserving joined lists of names. Assumes nothing.
use Rattle.std.proofs.Common.{◌≡◌, ℕ, List, [], ◌∷◌, ◌++◌, refl}
use Rattle.conflict_resolver.specs.Records.{Record}
use Rattle.conflict_resolver.specs.Rules.{Reservation, made, declined, reserved}
use Rattle.reservations.specs.Reserving.{following, reserve_each}

pub reserve_append : (most : ℕ) (es : List Record) (xs ys : List (List ℕ)) → reserve_each most es (xs ++ ys) ≡ following (reserve_each most es xs) (λ fs. reserve_each most fs ys)
reserve_append most es [] ys = refl
reserve_append most es (x ∷ xs) ys = on (reserved most es x) (λ fs. reserve_append most fs xs ys)
  where
    on : (r : Reservation) → ((fs : List Record) → reserve_each most fs (xs ++ ys) ≡ following (reserve_each most fs xs) (λ gs. reserve_each most gs ys))
        → following r (λ fs. reserve_each most fs (xs ++ ys)) ≡ following (following r (λ fs. reserve_each most fs xs)) (λ fs. reserve_each most fs ys)
    on (made fs) ih = ih fs
    on (declined fs why) ih = refl
