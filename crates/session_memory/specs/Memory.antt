-- How many entries memory has. Assumes nothing.
use Rattle.std.specs.Prelude.{vec_len}
use Rattle.session_memory.specs.declared.memory.Memory.{Memory}
use Rattle.session_memory.specs.declared.sizes.MemorySizes.{MemorySizes}

abbrev pub sizes_of : Memory → MemorySizes
sizes_of m = record {
  records = vec_len m.records;
  names = vec_len m.names;
  inner = vec_len m.inner;
  marks = vec_len m.marks;
  helpers = vec_len m.helpers;
}
