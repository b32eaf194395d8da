-- What stands under the keys of an index after a number was noted. Assumes nothing.
use Rattle.std.proofs.Common.{◌≡◌, ℕ, cond, List, is_ok, IfOk, Some, None, Ok, Err, Option, Result, unwrap_or, sym, refl, ap, ◌∙◌, subst, ⊎_elim}
use Rattle.std.proofs.lemmas.Bool.{cases_Bool, both_ways}
use Rattle.names.specs.declared.refusal.Refusal.{Refusal}
use Rattle.keys.specs.Bindings.{binding_alike}
use Rattle.keys.specs.declared.binding_key.Binding.{Binding}
use Rattle.keys.specs.BindingEquality.{binding_decides}
use Rattle.keyed_table.specs.Laws.{Laws}
use Rattle.keyed_table.specs.Model.{put}
use Rattle.keyed_table.specs.declared.slot.Entry.{Entry}
use Rattle.chunk_tables.specs.Lists.{maybe}
use Rattle.binding_index.specs.Indexes.{under, Noted}

-- an option, or else another
pub or_none : (o : Option ℕ) → maybe o None Some ≡ o
or_none None = refl
or_none (Some i) = refl

some_value : (o : Option ℕ) (i : ℕ) → Some (unwrap_or o i) ≡ maybe o (Some i) Some
some_value None i = refl
some_value (Some j) i = refl

module _ (ss : List (Entry Binding ℕ)) (k : Binding) (i : ℕ) (laws : Laws Binding ℕ binding_alike) where
  -- the entries after the first number was put under the key
  abbrev after : ℕ → List (Entry Binding ℕ)
  after v = put binding_alike ss k v

  module _ (o : Option ℕ) (found : o ≡ under ss k) (v : ℕ) (first : v ≡ unwrap_or o i) where
    own : under (after v) k ≡ maybe (under ss k) (cond (binding_alike k k) (Some i) None) Some
    own =
        laws.itself ss k v ∙ ap Some first ∙ some_value o i ∙ ap (λ p. maybe p (Some i) Some) found
        ∙ sym (ap (λ b. maybe (under ss k) (cond b (Some i) None) Some) ((binding_decides k k).1 refl))

    noted : Noted ss k i (after v)
    noted q =
        ⊎_elim
        (λ t. subst (λ b. under (after v) b ≡ maybe (under ss b) (cond (binding_alike k b) (Some i) None) Some) ((binding_decides k q).0 t) own)
        (λ f.
        laws.others ss k q v (λ s. both_ways (binding_alike k q) f ((binding_decides k q).1 s))
        ∙ sym (ap (λ b. maybe (under ss q) (cond b (Some i) None) Some) f ∙ or_none (under ss q)))
        (cases_Bool (binding_alike k q))

    pub noted_put : (r : Result (Unit {0}) Refusal) (ts : List (Entry Binding ℕ)) → ts ≡ cond (is_ok r) (after v) ss → IfOk r (λ _. Noted ss k i ts)
    noted_put (Ok u) ts h = subst (Noted ss k i) (sym h) noted
    noted_put (Err x) ts h = tt
