-- The words that lines begin with. Assumes nothing.
use Rattle.std.specs.Prelude.{List as Seq, [], ◌∷◌, codes}
use Rattle.chunk_text.specs.declared.chunk_lines.ChunkVerb.TheVariants as lists
use Rattle.chunk_text.specs.declared.module_lines.ModuleVerb.TheVariants as modules
use Rattle.chunk_text.specs.declared.verbs.InsideVerb.{InsideVerb}
use Rattle.chunk_text.specs.declared.verbs.InsideVerb.TheVariants.{Adds, End}
use Rattle.chunk_text.specs.declared.verbs.OutsideVerb.{OutsideVerb}
use Rattle.chunk_text.specs.declared.verbs.OutsideVerb.TheVariants.{Format, Records, Memory, Module, List}
use Rattle.chunk_text.specs.Words.{Word}

-- outside of a module
abbrev pub outside_verbs : Seq (Word × OutsideVerb)
outside_verbs =
    (codes "format", Format)
    ∷ (codes "records", Records)
    ∷ (codes "memory", Memory)
    ∷ (codes "module", Module)
    ∷ (codes "globals", List lists.Globals)
    ∷ (codes "runtime", List lists.Runtime)
    ∷ (codes "chunk", List lists.Members)
    ∷ (codes "direct", List lists.Direct)
    ∷ (codes "entry_externals", List lists.EntryLevel)
    ∷ (codes "indirect", List lists.Indirect)
    ∷ (codes "entry", List lists.Entry)
    ∷ (codes "used", List lists.Used)
    ∷ (codes "synthetic", List lists.Synthetic)
    ∷ (codes "other", List lists.Other)
    ∷ []

-- in a module
abbrev pub inside_verbs : Seq (Word × InsideVerb)
inside_verbs =
    (codes "wrapped", Adds modules.Wrapped)
    ∷ (codes "dynamic_import", Adds modules.DynamicImport)
    ∷ (codes "file_url", Adds modules.FileUrl)
    ∷ (codes "uses_module", Adds modules.UsesModule)
    ∷ (codes "uses_module_or_exports", Adds modules.UsesModuleOrExports)
    ∷ (codes "scope", Adds modules.Scope)
    ∷ (codes "symbol", Adds modules.Symbol)
    ∷ (codes "hot", Adds modules.Hot)
    ∷ (codes "this", Adds modules.This)
    ∷ (codes "default", Adds modules.Default)
    ∷ (codes "shim", Adds modules.Shim)
    ∷ (codes "import", Adds modules.Import)
    ∷ (codes "unresolved", Adds modules.Unresolved)
    ∷ (codes "reference", Adds modules.Reference)
    ∷ (codes "member", Adds modules.Member)
    ∷ (codes "statement", Adds modules.Statement)
    ∷ (codes "end", End)
    ∷ []
