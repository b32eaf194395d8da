-- The naming calls of a chunk, by sections: each with all that come behind it. Assumes nothing.
use Rattle.std.specs.Prelude.{List, ◌++◌}
use Rattle.chunk_tables.specs.Model.{Chunk}
use Rattle.session_rules.specs.Calls.{Call}
use Rattle.deconflict_chunk_symbols.specs.Run.{entry_calls, used_calls, members_calls, synthetic_calls, import_calls}

abbrev pub from_synthetic : Chunk → List Call
from_synthetic c = synthetic_calls c ++ import_calls c

abbrev pub from_members : Chunk → List Call
from_members c = members_calls c ++ from_synthetic c

abbrev pub from_used : Chunk → List Call
from_used c = used_calls c ++ from_members c

abbrev pub from_entry : Chunk → List Call
from_entry c = entry_calls c ++ from_used c
