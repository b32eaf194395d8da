-- The names that a session reserves when it opens. Assumes nothing.
use Rattle.std.specs.Prelude.{ℕ, Bool, false, cond, List, [], ◌∷◌, ◌++◌, map, codes}
use Rattle.std.specs.List.{flat_map, list_any, slice_get}
use Rattle.std.specs.Str.{bytes_eq}
use Rattle.names.specs.Words.{reserved_words}
use Rattle.chunk_tables.specs.declared.format.Format.{Format}
use Rattle.chunk_tables.specs.declared.format.Format.TheVariants.{Esm, Cjs, Iife, Umd}
use Rattle.chunk_tables.specs.Fixed.{fixed_names, wrapper_parameters}
use Rattle.chunk_tables.specs.Formats.{of_code}
use Rattle.chunk_tables.specs.Lists.{maybe}
use Rattle.chunk_tables.specs.Model.{Name, Module, Chunk}

-- what is printed in every chunk
abbrev pub always_printed : List Name
always_printed = codes "Object" ∷ codes "Promise" ∷ []

-- what a chunk of each format prints at its top level
abbrev pub printed_by : Format → List Name
printed_by Esm = []
printed_by Cjs = codes "module" ∷ codes "require" ∷ codes "__filename" ∷ codes "__dirname" ∷ codes "exports" ∷ codes "Symbol" ∷ []
printed_by Iife = codes "exports" ∷ codes "Symbol" ∷ []
printed_by Umd = codes "exports" ∷ codes "Symbol" ∷ []

-- of a module: its unresolved names, its fixed names, and the parameters of the function around it
abbrev pub reserved_in : Format → Module → List Name
reserved_in f M = map (λ u. u.name) M.unresolved ++ (fixed_names f M ++ cond M.wrapped (wrapper_parameters M) [])

-- of the module with a number
abbrev pub reserved_by_member : Format → Chunk → ℕ → List Name
reserved_by_member f c m = maybe (slice_get c.modules m) [] (reserved_in f)

-- of all chunk modules
abbrev pub reserved_by_members : Format → Chunk → List Name
reserved_by_members f c = flat_map (reserved_by_member f c) c.members

-- what is on record before any name is given
abbrev pub reserved_names : Format → Chunk → List Name
reserved_names f c = reserved_words ++ (c.globals ++ (always_printed ++ (printed_by f ++ reserved_by_members f c)))

-- n is one of the names
abbrev pub among : List Name → Name → Bool
among ns n = list_any (λ x. bytes_eq x n) ns

-- n is reserved in a chunk: the code of the chunk's format is that of one
abbrev pub is_reserved : Chunk → Name → Bool
is_reserved c n = maybe (of_code c.format) false (λ f. among (reserved_names f c) n)
