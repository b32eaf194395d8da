-- How much memory a chunk needs. Assumes nothing.
use Rattle.std.specs.Prelude.{ℕ, ◌-◌, ◌^◌, ◌≤◌, Bool, ◌||◌, min, length, Some, None, Option, nat_lt}
use Rattle.chunk_tables.specs.Limits.{symbol_count}
use Rattle.chunk_tables.specs.Model.{Chunk}
use Rattle.session_memory.specs.declared.sizes.MemorySizes.{MemorySizes}

-- as a machine counts
abbrev pub counted : ℕ → ℕ
counted n = min n (2 ^ 64 - 1)

-- a place for each record, symbol (among the names and among the inner names), module and other chunk
abbrev pub needed : Chunk → MemorySizes
needed c = record {
  records = c.records;
  names = counted (symbol_count c);
  inner = counted (symbol_count c);
  marks = length c.modules;
  helpers = length c.others;
}

-- fewer places of some kind than these
abbrev pub under_sizes : MemorySizes → MemorySizes → Bool
under_sizes z n =
    nat_lt z.records n.records
    || (nat_lt z.names n.names || (nat_lt z.inner n.inner || (nat_lt z.marks n.marks || nat_lt z.helpers n.helpers)))

abbrev pub too_small : Chunk → MemorySizes → Bool
too_small c z = under_sizes z (needed c)

-- there are places enough for what a session over the chunk can keep
pub record HasRoom (c : Chunk) (z : MemorySizes) : Type 0 where
  pub for_records : c.records ≤ z.records
  pub for_names : symbol_count c ≤ z.names
  pub for_inner : symbol_count c ≤ z.inner
  pub for_marks : length c.modules ≤ z.marks
  pub for_helpers : length c.others ≤ z.helpers

-- no more than a chunk within the limits can need
abbrev pub capped : Chunk → MemorySizes → MemorySizes
capped c z = record {
  records = min z.records 4096;
  names = min z.names 16384;
  inner = min z.inner 16384;
  marks = min z.marks (length c.modules);
  helpers = min z.helpers (length c.others);
}

abbrev pub sizes_for : Chunk → Option MemorySizes → MemorySizes
sizes_for c None = capped c (needed c)
sizes_for c (Some z) = capped c z
