-- Which tables have a text: those whose numbers fit 32 bits, and whose names can stand as words. Assumes nothing.
use Rattle.std.specs.Prelude.{◌≡◌, ℕ, ◌<◌, ◌≤◌, ◌^◌, false, ◌==◌, All, IfSome}
use Rattle.std.specs.List.{list_any}
use Rattle.keys.specs.declared.refs.SymbolRef.{SymbolRef}
use Rattle.chunk_tables.specs.declared.parts.ModuleKind.{ModuleKind}
use Rattle.chunk_tables.specs.declared.parts.ModuleKind.TheVariants.{Normal, External}
use Rattle.chunk_tables.specs.declared.parts.Reference.{Reference}
use Rattle.chunk_tables.specs.Model.{Symbol, Unresolved, Module, OtherChunk, Chunk}
use Rattle.session_memory.specs.declared.sizes.MemorySizes.{MemorySizes}
use Rattle.chunk_text.specs.Words.{Word, is_nil}
use Rattle.chunk_text.specs.Documents.{Document}

-- a number that can be written
abbrev pub IsNumber : ℕ → Type 0
IsNumber n = n < 2 ^ 32

-- some bytes, none of which is a space
pub record IsWord (w : Word) : Type 0 where
  pub filled : is_nil w ≡ false
  pub spaceless : list_any (λ b. b == 32) w ≡ false

-- a symbol that can be written
pub record IsSymbol (q : SymbolRef) : Type 0 where
  pub owner : IsNumber q.owner
  pub symbol : IsNumber q.symbol

pub record WritableSymbol (y : Symbol) : Type 0 where
  pub name : IsWord y.name
  pub scope : IsNumber y.scope
  pub link : IfSome y.link IsSymbol
  pub alias : IfSome y.alias IsSymbol

pub record WritableUnresolved (u : Unresolved) : Type 0 where
  pub name : IsWord u.name
  pub scope : IsNumber u.scope

pub record WritableReference (r : Reference) : Type 0 where
  pub scope : IsNumber r.scope
  pub target : IsNumber r.target
  pub resolved : IfSome r.resolved IsSymbol

-- the namespace of an external module is its symbol 0: no text says another
abbrev pub WritableKind : ModuleKind → Type 0
WritableKind Normal = Unit {0}
WritableKind (External n) = n ≡ 0

pub record WritableModule (M : Module) : Type 0 where
  pub kind : WritableKind M.kind
  pub order : IsNumber M.order
  pub parents : All IsNumber M.parents
  pub symbols : All WritableSymbol M.symbols
  pub hot : IfSome M.hot IsNumber
  pub this : IfSome M.this IsNumber
  pub default : IfSome M.default IsNumber
  pub shims : All IsNumber M.shims
  pub imports : All IsNumber M.imports
  pub unresolved : All WritableUnresolved M.unresolved
  pub references : All WritableReference M.references
  pub statements : All (λ s. All IsSymbol s.declared) M.statements

pub record WritableOther (o : OtherChunk) : Type 0 where
  pub number : IsNumber o.number
  pub name : IsWord o.name
  pub imports : All IsSymbol o.imports

-- the format's code is that of a format, or 0
pub record WritableChunk (C : Chunk) : Type 0 where
  pub format : C.format ≤ 4
  pub records : IsNumber C.records
  pub globals : All IsWord C.globals
  pub runtime : IfSome C.runtime IsNumber
  pub modules : All WritableModule C.modules
  pub members : All IsNumber C.members
  pub direct : All IsNumber C.direct
  pub entry_level : All IsNumber C.entry_level
  pub indirect : All IsNumber C.indirect
  pub entry : All (λ e. IsSymbol e.symbol) C.entry
  pub used : All IsSymbol C.used
  pub synthetic : All IsSymbol C.synthetic
  pub others : All WritableOther C.others

pub record WritableSizes (z : MemorySizes) : Type 0 where
  pub records : IsNumber z.records
  pub names : IsNumber z.names
  pub inner : IsNumber z.inner
  pub marks : IsNumber z.marks
  pub helpers : IsNumber z.helpers

pub record Writable (d : Document) : Type 0 where
  pub chunk : WritableChunk d.chunk
  pub memory : IfSome d.memory WritableSizes
