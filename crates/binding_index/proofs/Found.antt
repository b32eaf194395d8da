-- What an index answers. Assumes nothing.
use Rattle.std.proofs.Common.{◌≡◌, ℕ, List, Some, Option, ap, ◌∙◌, subst}
use mathlib.Core.Logic.{∥∥₁_elim}
use native.Mathlib.Nat.{ℕ_set}
use Rattle.names.specs.Spelt.{spelt}
use Rattle.names.specs.declared.name.Name.{Name}
use Rattle.keys.specs.declared.binding_key.Binding.{Binding}
use Rattle.keyed_table.specs.Contents.{Contents}
use Rattle.keyed_table.proofs.Latest.{upto, upto_one}
use Rattle.chunk_tables.specs.Bindings.{bound_in}
use Rattle.chunk_tables.specs.Model.{Module}
use Rattle.binding_index.specs.Indexes.{under, Indexes}

-- an equation of numbers found, out of `∥ ∥₁`
settled : {A : Type 0} {x y : Option ℕ} → ∥ A ∥₁ → (A → x ≡ y) → x ≡ y
settled {A} {x} {y} h f = upto_one x y (∥∥₁_elim h (ℕ_set (upto x) (upto y)) (λ a. ap upto (f a)))

-- what is found in the index is what the module binds
pub found_bound : (M : Module) (o : Option (Contents Binding ℕ)) (t : Contents Binding ℕ) (s : ℕ) (k : Name) (text : List ℕ) → o ≡ Some t → ∥ Indexes M.symbols o ∥₁ → spelt k ≡ text → (r : Option ℕ) → r ≡ under t.entries (record { scope = s; name = k }) → r ≡ bound_in M s text
found_bound M o t s k text e h same r is =
    is ∙ settled (subst (λ p. ∥ Indexes M.symbols p ∥₁) e h) (λ f. f (record { scope = s; name = k })) ∙ ap (bound_in M s) same
