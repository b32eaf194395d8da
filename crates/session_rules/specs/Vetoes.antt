-- Under which policy the name of a symbol is sought. Assumes nothing.
use Rattle.std.specs.Prelude.{Bool}
use Rattle.keys.specs.declared.refs.SymbolRef.{SymbolRef}
use Rattle.chunk_tables.specs.declared.kind.RootBindingKind.{RootBindingKind}
use Rattle.chunk_tables.specs.declared.kind.RootBindingKind.TheVariants.{Authored, Synthesized}
use Rattle.chunk_tables.specs.Model.{Name, Chunk}
use Rattle.policies.specs.File.{file_vetoes}
use Rattle.policies.specs.OwnModule.{own_module_vetoes}

-- an authored symbol goes by its own module, a synthesized one by the whole file
abbrev pub kind_vetoes : Chunk → SymbolRef → RootBindingKind → Name → Bool → Bool
kind_vetoes c q Authored = own_module_vetoes c q.owner
kind_vetoes c q Synthesized = file_vetoes c
