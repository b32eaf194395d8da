-- The session that the code's struct holds. Assumes nothing.
use Rattle.std.specs.Prelude.{◌≡◌, List}
use Rattle.names.specs.declared.name.Name.{Name}
use Rattle.keys.specs.declared.refs.ChunkIdx.{ChunkIdx}
use Rattle.keyed_table.specs.Contents.{room as places}
use Rattle.keyed_table.specs.declared.slot.Entry.{Entry}
use Rattle.chunk_tables.specs.Model.{Chunk}
use Rattle.chunk_tables.specs.View.{chunk_of}
use Rattle.conflict_resolver.specs.Held.{held, slots as slots_of}
use Rattle.given_names.specs.Held.{given_in, room_for}
use Rattle.session_rules.specs.Helpers.{Helper}
use Rattle.session_rules.specs.Session.{Session, session}
use Rattle.renamer.specs.Helpers.{helpers_in}
use Rattle.renamer.specs.declared.renamer.Renamer.{Renamer}

abbrev pub chunk_in : Renamer → Chunk
chunk_in r = chunk_of r.chunk.now.chunk

abbrev pub session_of : Renamer → Session
session_of r = session (held r.resolver) (given_in r.canonical_names)

-- the helpers' entries, in the order in which they were drawn, and as the rules see them
abbrev pub helper_entries : Renamer → List (Entry ChunkIdx Name)
helper_entries r = r.require_names.entries

abbrev pub helpers_of : Renamer → List Helper
helpers_of r = helpers_in (helper_entries r)

-- the tables, the policies and the marks stay, and the memory has the room that it had
pub record Stays (r s : Renamer) : Type 0 where
  pub tables : s.chunk.now ≡ r.chunk.now
  pub policies : s.policies ≡ r.policies
  pub records : slots_of s.resolver ≡ slots_of r.resolver
  pub names : room_for s.canonical_names ≡ room_for r.canonical_names
  pub helpers : places s.require_names ≡ places r.require_names
  pub marks : s.marks ≡ r.marks

-- the same, and the helpers stay
pub record Keeps (r s : Renamer) : Type 0 where
  pub stays : Stays r s
  pub helpers : s.require_names ≡ r.require_names

-- nothing has changed
pub record Same (r s : Renamer) : Type 0 where
  pub keeps : Keeps r s
  pub records : s.resolver ≡ r.resolver
  pub names : s.canonical_names ≡ r.canonical_names
