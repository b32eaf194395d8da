-- That bindings which agree in scope and name are one value. Assumes nothing.
use Rattle.std.specs.Prelude.{◌≡◌, Decides, ◌==◌}
use Rattle.std.proofs.Common.{ap}
use Rattle.std.proofs.lemmas.Bool.Decides.{Decides-eqb, Decides-and, Decides-like}
use Rattle.names.proofs.Padding.{name_decides}
use Rattle.keys.specs.Bindings.{binding_alike}
use Rattle.keys.specs.Names.{name_alike}
use Rattle.keys.specs.declared.binding_key.Binding.{Binding}

from_parts : (x y : Binding) → x.scope ≡ y.scope → x.name ≡ y.name → x ≡ y
from_parts x y p q = λ i. record { scope = p i; name = q i }

pub binding_decides : (x y : Binding) → Decides (binding_alike x y) (x ≡ y)
binding_decides x y =
    Decides-like (binding_alike x y) (λ h. from_parts x y h.0 h.1) (λ e. (ap (λ b. b.scope) e, ap (λ b. b.name) e))
    (Decides-and (x.scope == y.scope) (name_alike x.name y.name) (Decides-eqb x.scope y.scope) (name_decides x.name y.name))
