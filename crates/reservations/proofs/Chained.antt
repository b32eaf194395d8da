-- Reserving one list of names after another. Assumes nothing.
use Rattle.std.proofs.Common.{◌≡◌, ℕ, List, [], ◌∷◌, ◌++◌, map, vec_items, Ok, Err, Result, sym, refl, ap, subst, ◌∙◌}
use Rattle.chunk_tables.specs.View.{unresolved_of}
use Rattle.chunk_tables.specs.declared.parts.Unresolved as unresolved
use Rattle.names.specs.declared.refusal.Refusal.{Refusal}
use Rattle.conflict_resolver.specs.Held.{held, room}
use Rattle.conflict_resolver.specs.declared.resolver.ConflictResolver.{ConflictResolver}
use Rattle.reservations.specs.Reserving.{following, reserve_each, Reserves}
use Rattle.reservations.proofs.Appended.{reserve_append}

-- where the first names are refused, all are
pub ends : (r s : ConflictResolver) (e : Refusal) (xs ys : List (List ℕ)) → Reserves r s (Err e) xs → Reserves r s (Err e) (xs ++ ys)
ends r s e xs ys h = record {
  rules = ap (λ o. following o (λ fs. reserve_each (room r) fs ys)) h.rules ∙ sym (reserve_append (room r) (held r) xs ys);
  room = h.room;
  slots = h.slots;
}

-- else the others follow
pub goes_on : (r s t : ConflictResolver) (o : Result (Unit {0}) Refusal) (xs ys : List (List ℕ)) → Reserves r s (Ok tt) xs → Reserves s t o ys → Reserves r t o (xs ++ ys)
goes_on r s t o xs ys h g = record {
  rules = g.rules ∙ ap (λ n. reserve_each n (held s) ys) h.room ∙ ap (λ o. following o (λ fs. reserve_each (room r) fs ys)) h.rules ∙ sym (reserve_append (room r) (held r) xs ys);
  room = g.room ∙ h.room;
  slots = g.slots ∙ h.slots;
}

-- nothing to reserve
pub nothing : (r : ConflictResolver) → Reserves r r (Ok tt) []
nothing r = record { rules = refl; room = refl; slots = refl }

-- the same names
pub as_seen : (r s : ConflictResolver) (o : Result (Unit {0}) Refusal) (xs ys : List (List ℕ)) → xs ≡ ys → Reserves r s o xs → Reserves r s o ys
as_seen r s o xs ys e h = subst (Reserves r s o) e h

-- the names of rows are those of their views
pub unresolved_texts : (us : List unresolved.Unresolved) → map (λ u. vec_items u.name) us ≡ map (λ u. u.name) (map unresolved_of us)
unresolved_texts [] = refl
unresolved_texts (u ∷ us) = ap (λ ns. vec_items u.name ∷ ns) (unresolved_texts us)

-- where the first names are refused, an answer q that passes the refusal on
pub exits : (r s : ConflictResolver) (q : Result (Unit {0}) Refusal) (e : Refusal) (xs ys : List (List ℕ)) → q ≡ Err e → Reserves r s (Err e) xs → Reserves r s q (xs ++ ys)
exits r s q e xs ys p h = subst (λ o. Reserves r s o (xs ++ ys)) (sym p) (ends r s e xs ys h)
