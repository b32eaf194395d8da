-- Which top-level symbols the source names, and which the bundler makes. Assumes nothing.
use Rattle.std.specs.Prelude.{ℕ, Bool, true, false, cond, not, ◌&&◌, ◌||◌, nat_eq}
use Rattle.std.specs.List.{list_any, slice_get}
use Rattle.keys.specs.declared.refs.SymbolRef.{SymbolRef}
use Rattle.chunk_tables.specs.declared.kind.RootBindingKind.{RootBindingKind}
use Rattle.chunk_tables.specs.declared.kind.RootBindingKind.TheVariants.{Authored, Synthesized}
use Rattle.chunk_tables.specs.declared.parts.ModuleKind.{ModuleKind}
use Rattle.chunk_tables.specs.declared.parts.ModuleKind.TheVariants.{Normal, External}
use Rattle.chunk_tables.specs.Lists.{maybe}
use Rattle.chunk_tables.specs.Links.{canonical}
use Rattle.chunk_tables.specs.Model.{Module, Chunk}

-- its source is known
abbrev pub is_normal : ModuleKind → Bool
is_normal Normal = true
is_normal (External n) = false

-- whether a number is that of a facade
abbrev pub facade : Module → ℕ → Bool
facade M i = maybe (slice_get M.symbols i) false (λ y. not y.bound)

-- whether a symbol stands for what a source names: an import, the default export, or an export that is missing
abbrev pub source_facade : Module → ℕ → Bool
source_facade M i = list_any (nat_eq i) M.imports || (maybe M.default false (nat_eq i) || list_any (nat_eq i) M.shims)

-- made by the bundler: the runtime's helpers, and those facades of modules with a source that stand for nothing in it
abbrev pub synthesized : Chunk → SymbolRef → Bool
synthesized c q =
    maybe c.runtime false (nat_eq q.owner)
    || maybe (slice_get c.modules q.owner) false (λ M. is_normal M.kind && (facade M q.symbol && not (source_facade M q.symbol)))

-- a symbol's kind is that of the variable that it is
abbrev pub kind_of : Chunk → SymbolRef → RootBindingKind
kind_of c q = cond (synthesized c (canonical c q)) Synthesized Authored
