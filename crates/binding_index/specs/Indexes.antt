-- What an index of symbols by scope and name holds. Assumes nothing.
use Rattle.std.specs.Prelude.{◌≡◌, ℕ, false, cond, List, Some, None, Option}
use Rattle.names.specs.Spelt.{spelt}
use Rattle.keys.specs.Bindings.{binding_alike}
use Rattle.keys.specs.declared.binding_key.Binding.{Binding}
use Rattle.keyed_table.specs.Model.{lookup}
use Rattle.keyed_table.specs.declared.slot.Entry.{Entry}
use Rattle.keyed_table.specs.Contents.{Contents}
use Rattle.chunk_tables.specs.Bindings.{binds_in}
use Rattle.chunk_tables.specs.Lists.{maybe, place}
use Rattle.chunk_tables.specs.Model.{Symbol}

-- o is the key of a symbol: the one key whose name the symbol binds in its scope, if there is one
abbrev pub KeyOf : Symbol → Option Binding → Type 0
KeyOf y o = (q : Binding) → binds_in q.scope (spelt q.name) y ≡ maybe o false (λ k. binding_alike k q)

-- the number under a key
abbrev pub under : List (Entry Binding ℕ) → Binding → Option ℕ
under ss q = lookup binding_alike ss q

-- the key leads to the number now, unless it led to one before; each other key leads to what it did
abbrev pub Noted : List (Entry Binding ℕ) → Binding → ℕ → List (Entry Binding ℕ) → Type 0
Noted ss k i ts = (q : Binding) → under ts q ≡ maybe (under ss q) (cond (binding_alike k q) (Some i) None) Some

-- each key has the number of the first symbol that is a binding of its name in its scope
abbrev pub Finds : List Symbol → Contents Binding ℕ → Type 0
Finds ys t = (q : Binding) → under t.entries q ≡ place (binds_in q.scope (spelt q.name)) ys

-- the same of the index, where there is one
abbrev pub Indexes : List Symbol → Option (Contents Binding ℕ) → Type 0
Indexes ys None = Unit {0}
Indexes ys (Some t) = Finds ys t
