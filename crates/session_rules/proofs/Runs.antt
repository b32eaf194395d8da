-- Calls that are made one after another. Assumes nothing.
use Rattle.std.proofs.Common.{◌≡◌, ℕ, zero, suc, ◌<◌, List, [], ◌∷◌, Some, sym, subst, arith}
use Rattle.std.specs.List.{slice_get}
use Rattle.std.proofs.lemmas.Option.{none-some, same_Some}
use Rattle.chunk_tables.specs.Model.{Chunk}
use Rattle.session_rules.specs.Calls.{Call, told, after_all}
use Rattle.session_rules.specs.Events.{Event, event, events}
use Rattle.session_rules.specs.Session.{Session}

module _ (c : Chunk) where
  module _ (I : Session → Type 0) (keeps : (S : Session) (x : Call) → I S → I (told c S x).after) where
    -- what every call keeps holds at the end
    pub at_the_end : (S : Session) (xs : List Call) → I S → I (after_all c S xs)
    at_the_end S [] h = h
    at_the_end S (x ∷ xs) h = at_the_end (told c S x).after xs (keeps S x h)

    -- and before each call
    pub on_the_way : (S : Session) (xs : List Call) → I S → (i : ℕ) (e : Event) → slice_get (events c S xs) i ≡ Some e → I e.before
    on_the_way S [] h i e f = absurd (none-some e f)
    on_the_way S (x ∷ xs) h zero e f = subst (λ (d : Event). I d.before) (same_Some _ _ f) h
    on_the_way S (x ∷ xs) h (suc i) e f = on_the_way (told c S x).after xs (keeps S x h) i e f

    -- what holds after an event holds before a later one
    pub between : (S : Session) (xs : List Call) (i j : ℕ) (d e : Event) → i < j → slice_get (events c S xs) i ≡ Some d → slice_get (events c S xs) j ≡ Some e → I d.after → I e.before
    between S [] i j d e l f g h = absurd (none-some d f)
    between S (x ∷ xs) i zero d e l f g h = absurd (omega arith)
    between S (x ∷ xs) zero (suc j) d e l f g h = on_the_way (told c S x).after xs (subst (λ (d : Event). I d.after) (sym (same_Some _ _ f)) h) j e g
    between S (x ∷ xs) (suc i) (suc j) d e l f g h = between (told c S x).after xs i j d e (omega arith) f g h

    -- and at the end
    pub to_the_end : (S : Session) (xs : List Call) (i : ℕ) (d : Event) → slice_get (events c S xs) i ≡ Some d → I d.after → I (after_all c S xs)
    to_the_end S [] i d f h = absurd (none-some d f)
    to_the_end S (x ∷ xs) zero d f h = at_the_end (told c S x).after xs (subst (λ (e : Event). I e.after) (sym (same_Some _ _ f)) h)
    to_the_end S (x ∷ xs) (suc i) d f h = to_the_end (told c S x).after xs i d f h

  -- what holds of every call holds of each event
  pub each : (P : Event → Type 0) → ((S : Session) (x : Call) → P (event c S x)) → (S : Session) (xs : List Call) (i : ℕ) (e : Event) → slice_get (events c S xs) i ≡ Some e → P e
  each P h S [] i e f = absurd (none-some e f)
  each P h S (x ∷ xs) zero e f = subst P (same_Some _ _ f) (h S x)
  each P h S (x ∷ xs) (suc i) e f = each P h (told c S x).after xs i e f
