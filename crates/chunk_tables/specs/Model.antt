-- The tables of a chunk as plain lists, in which a row is told by its place. Assumes nothing.
use Rattle.std.specs.Prelude.{ℕ, Bool, List, Option}
use Rattle.keys.specs.declared.refs.SymbolRef.{SymbolRef}
use Rattle.chunk_tables.specs.declared.chunk.EntrySymbol.{EntrySymbol}
use Rattle.chunk_tables.specs.declared.parts.ModuleKind.{ModuleKind}
use Rattle.chunk_tables.specs.declared.parts.Reference.{Reference}

-- the bytes of a name
abbrev pub Name : Type 0
Name = List ℕ

pub record Symbol : Type 0 where
  pub name : Name
  pub scope : ℕ
  pub bound : Bool
  pub link : Option SymbolRef
  pub alias : Option SymbolRef

pub record Unresolved : Type 0 where
  pub name : Name
  pub scope : ℕ

pub record Statement : Type 0 where
  pub kept : Bool
  pub external : Bool
  pub declared : List SymbolRef

-- a scope is told by its parent; the first row is the root's, whose parent nothing reads
pub record Module : Type 0 where
  pub kind : ModuleKind
  pub order : ℕ
  pub wrapped : Bool
  pub hot : Option ℕ
  pub this : Option ℕ
  pub default : Option ℕ
  pub dynamic_import : Bool
  pub file_url : Bool
  pub uses_module : Bool
  pub uses_either : Bool
  pub parents : List ℕ
  pub symbols : List Symbol
  pub references : List Reference
  pub shims : List ℕ
  pub imports : List ℕ
  pub unresolved : List Unresolved
  pub statements : List Statement

pub record OtherChunk : Type 0 where
  pub number : ℕ
  pub name : Name
  pub imports : List SymbolRef

pub record Chunk : Type 0 where
  pub format : ℕ
  pub records : ℕ
  pub globals : List Name
  pub runtime : Option ℕ
  pub modules : List Module
  pub members : List ℕ
  pub direct : List ℕ
  pub entry_level : List ℕ
  pub indirect : List ℕ
  pub entry : List EntrySymbol
  pub used : List SymbolRef
  pub synthetic : List SymbolRef
  pub others : List OtherChunk
