use Rattle.std.proofs.Common.{◌≡◌, ◌-◌}
use Rattle.chunk_tables.specs.Links.{follow}
use Rattle.chunk_tables.specs.View.{chunk_of}
use Rattle.chunk_tables.proofs.chunk.Chunk.follow_links.Given as goal

-- the links that are left lead to where all of them lead
abbrev pub invariant-loop : goal.invariant-loop
invariant-loop l = follow (chunk_of l.self) (l.most - l.counter) l.found ≡ follow (chunk_of l.self) l.most l.initial.found
