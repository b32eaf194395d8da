-- Names in scopes as keys. Assumes nothing.
use Rattle.std.specs.Prelude.{ℕ, Bool, ◌&&◌, ◌==◌}
use Rattle.keys.specs.Names.{name_alike, name_hash}
use Rattle.keys.specs.Refs.{mixed}
use Rattle.keys.specs.declared.binding_key.Binding.{Binding}

-- it takes the scope and the name to tell a binding
abbrev pub binding_alike : Binding → Binding → Bool
binding_alike x y = x.scope == y.scope && name_alike x.name y.name

-- the scope mixed into the name's hash
abbrev pub binding_hash : Binding → ℕ
binding_hash x = mixed (name_hash x.name) x.scope
