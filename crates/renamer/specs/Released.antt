-- What is given back at the end of a session. Assumes nothing.
use Rattle.std.specs.Prelude.{◌≡◌}
use Rattle.policies.specs.Policies.{memory_of}
use Rattle.session_memory.specs.declared.memory.Memory.{Memory}
use Rattle.renamer.specs.declared.renamer.Renamer.{Renamer}

-- all of the memory, as the session left it
pub record Releases (r : Renamer) (m : Memory) : Type 0 where
  pub records : m.records.items ≡ r.resolver.used.memory
  pub names : m.names.items ≡ r.canonical_names.names.memory
  pub inner : m.inner.items ≡ memory_of r.policies
  pub marks : m.marks ≡ r.marks
  pub helpers : m.helpers.items ≡ r.require_names.memory
