-- What opening a session answers, and what memory then holds. Assumes nothing.
use Rattle.std.specs.Prelude.{◌≡◌, true, false, [], ◌⊎◌, length, vec_len}
use Rattle.std.specs.List.{All}
use Rattle.names.specs.Refusals.{number_of}
use Rattle.keyed_table.specs.Contents.{room as places}
use Rattle.chunk_tables.specs.View.{chunk_of}
use Rattle.chunk_checks.specs.declared.checked.CheckedChunk.{CheckedChunk}
use Rattle.conflict_resolver.specs.Held.{held, slots as slots_of}
use Rattle.given_names.specs.Held.{given_in, room_for}
use Rattle.policies.specs.Policies.{room_for_names}
use Rattle.session_memory.specs.Memory.{sizes_of}
use Rattle.session_memory.specs.Sizes.{too_small}
use Rattle.session_memory.specs.declared.memory.Memory.{Memory}
use Rattle.renamer.specs.Opening.{Reserves, Exceeds, Emptied}
use Rattle.renamer.specs.State.{helper_entries}
use Rattle.renamer.specs.declared.renamer.Renamer.{Renamer}
use Rattle.renamer.specs.declared.renamer.opening.Refused.{Refused}

-- the session has the tables, the reserved names on record and no others, no name given, no helper drawn and no module
-- marked; the memory is all there
pub record OpensInRoom (k : CheckedChunk) (m : Memory) (r : Renamer) : Type 0 where
  pub tables : r.chunk.now ≡ k
  pub reserved : Reserves (chunk_of k.chunk) (vec_len m.records) (held r.resolver)
  pub nothing_given : given_in r.canonical_names ≡ []
  pub no_helper : helper_entries r ≡ []
  pub unmarked : All (λ mark. mark ≡ false) r.marks.items
  pub records : slots_of r.resolver ≡ vec_len m.records
  pub names : room_for r.canonical_names ≡ vec_len m.names
  pub inner : room_for_names r.policies ≡ vec_len m.inner
  pub marks : vec_len r.marks ≡ vec_len m.marks
  pub helpers : places r.require_names ≡ vec_len m.helpers

-- the reserved names are more than may be on record: 10, and of the memory the records are emptied, and the rest is as it was
pub record RefusesRecords (k : CheckedChunk) (m : Memory) (f : Refused) : Type 0 where
  pub number : number_of f.refusal ≡ 10
  pub exceeds : Exceeds (chunk_of k.chunk) (vec_len m.records)
  pub records : Emptied (vec_len m.records) f.memory.records.items
  pub names : f.memory.names ≡ m.names
  pub inner : f.memory.inner ≡ m.inner
  pub marks : f.memory.marks ≡ m.marks
  pub helpers : f.memory.helpers ≡ m.helpers

pub record Opens (k : CheckedChunk) (m : Memory) (r : Renamer) : Type 0 where
  pub roomy : too_small (chunk_of k.chunk) (sizes_of m) ≡ false
  pub opens : OpensInRoom k m r

-- the memory is too small for the tables: 1, and nothing has changed; or it is large enough, and the records are not
abbrev pub Refuses : CheckedChunk → Memory → Refused → Type 0
Refuses k m f =
    ((too_small (chunk_of k.chunk) (sizes_of m) ≡ true) × (number_of f.refusal ≡ 1) × (f.memory ≡ m))
    ⊎ ((too_small (chunk_of k.chunk) (sizes_of m) ≡ false) × RefusesRecords k m f)
