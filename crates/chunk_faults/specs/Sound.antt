-- What the tables of a granted chunk have. Assumes nothing.
use Rattle.std.specs.Prelude.{◌≡◌, ℕ, suc, ◌<◌, ◌≤◌, true, false, length, Some, None}
use Rattle.std.specs.List.{slice_get}
use Rattle.keys.specs.declared.refs.SymbolRef.{SymbolRef}
use Rattle.names.specs.Bases.{is_base}
use Rattle.hints.specs.Hints.{hint}
use Rattle.chunk_tables.specs.declared.chunk.EntrySymbol.{EntrySymbol}
use Rattle.chunk_tables.specs.declared.format.Format.{Format}
use Rattle.chunk_tables.specs.declared.parts.Reference.{Reference}
use Rattle.chunk_tables.specs.Bindings.{nearest}
use Rattle.chunk_tables.specs.Formats.{of_code}
use Rattle.chunk_tables.specs.Kinds.{is_normal}
use Rattle.chunk_tables.specs.Links.{symbol_at, link_of, alias_of, canonical}
use Rattle.chunk_tables.specs.Model.{Name, Symbol, Unresolved, Statement, Module, OtherChunk, Chunk}
use Rattle.chunk_tables.specs.Limits.{scope_count, symbol_count, reference_count}
use Rattle.chunk_faults.specs.ModuleRows.{namespace_of}
use Rattle.chunk_faults.specs.SymbolRows.{elsewhere}

-- a name from which names can be made
abbrev pub Fit : Name → Type 0
Fit n = (1 ≤ length n) × (length n ≤ 100)

-- the pair names a symbol of the chunk
abbrev pub There : Chunk → SymbolRef → Type 0
There c q = (y : Symbol) × (symbol_at c q ≡ Some y)

-- symbol i, which is y, was imported by name into the root
abbrev pub RootImport : Module → ℕ → Symbol → Type 0
RootImport M i y = (y.scope ≡ 0) × ((k : ℕ) × (slice_get M.imports k ≡ Some i))

-- symbols that a module names in its own record are its own
pub record SoundOwn (M : Module) : Type 0 where
  pub hot : (i : ℕ) → M.hot ≡ Some i → i < length M.symbols
  pub this : (i : ℕ) → M.this ≡ Some i → i < length M.symbols
  pub default : (i : ℕ) → M.default ≡ Some i → i < length M.symbols
  pub namespace : (i : ℕ) → namespace_of M.kind ≡ Some i → i < length M.symbols

-- scope i has the parent p
pub record SoundScope (M : Module) (i p : ℕ) : Type 0 where
  -- each step outward goes to a smaller number
  pub smaller : 0 < i → p < i
  -- the root of an external module has no scope within it
  pub only_root : is_normal M.kind ≡ false → i ≡ 0

-- symbol i of the module is y
pub record SoundSymbol (c : Chunk) (M : Module) (i : ℕ) (y : Symbol) : Type 0 where
  pub placed : y.scope < length M.parents
  pub link : (q : SymbolRef) → y.link ≡ Some q → There c q
  pub alias : (q : SymbolRef) → y.alias ≡ Some q → There c q
  -- a scope binds a name once
  pub apart : (j : ℕ) (x : Symbol) → slice_get M.symbols j ≡ Some x → x.bound ≡ true → y.bound ≡ true → x.scope ≡ y.scope → x.name ≡ y.name → j ≡ i
  -- what is not bound belongs to the root, and nothing is bound in an external module
  pub facade : y.bound ≡ false → y.scope ≡ 0
  pub only_facades : is_normal M.kind ≡ false → y.bound ≡ false
  -- nothing is printed through more than one alias
  pub alias_ends : (q : SymbolRef) → y.alias ≡ Some q → alias_of c (canonical c q) ≡ None
  -- a binding that is printed as another symbol was imported by name
  pub imported : y.bound ≡ true → elsewhere y ≡ true → RootImport M i y
  pub name : Fit y.name

pub record SoundReference (c : Chunk) (M : Module) (r : Reference) : Type 0 where
  pub scope : r.scope < length M.parents
  pub resolved : (q : SymbolRef) → r.resolved ≡ Some q → There c q
  -- a lookup of the target's name from the reference finds the target
  pub target : Symbol
  pub there : slice_get M.symbols r.target ≡ Some target
  pub bound : target.bound ≡ true
  pub nearest : nearest M r.scope target.name ≡ Some r.target
  -- what a resolved member is taken from was imported by name, and is not printed as itself where a wrapper would hold it
  pub member : (q : SymbolRef) → r.resolved ≡ Some q → RootImport M r.target target × (M.wrapped ≡ true → elsewhere target ≡ true)

-- a lookup of an unresolved name finds nothing
pub record SoundUnresolved (M : Module) (u : Unresolved) : Type 0 where
  pub scope : u.scope < length M.parents
  pub unbound : nearest M u.scope u.name ≡ None
  pub name : Fit u.name

pub record SoundModule (c : Chunk) (M : Module) : Type 0 where
  pub own : SoundOwn M
  pub scopes : (i p : ℕ) → slice_get M.parents i ≡ Some p → SoundScope M i p
  pub symbols : (i : ℕ) (y : Symbol) → slice_get M.symbols i ≡ Some y → SoundSymbol c M i y
  pub references : (k : ℕ) (r : Reference) → slice_get M.references k ≡ Some r → SoundReference c M r
  pub shims : (k i : ℕ) → slice_get M.shims k ≡ Some i → i < length M.symbols
  pub imports : (k i : ℕ) → slice_get M.imports k ≡ Some i → i < length M.symbols
  pub unresolved : (k : ℕ) (u : Unresolved) → slice_get M.unresolved k ≡ Some u → SoundUnresolved M u
  pub statements : (k j : ℕ) (s : Statement) (q : SymbolRef) → slice_get M.statements k ≡ Some s → slice_get s.declared j ≡ Some q → There c q

pub record SoundLimits (c : Chunk) : Type 0 where
  pub modules : length c.modules ≤ 256
  pub scopes : scope_count c ≤ 16384
  pub symbols : symbol_count c ≤ 16384
  pub references : reference_count c ≤ 32768
  pub some_records : 1 ≤ c.records
  pub records : c.records ≤ 4096

-- the chunk's modules
pub record SoundMembers (c : Chunk) : Type 0 where
  pub normal : (k m : ℕ) → slice_get c.members k ≡ Some m → (M : Module) × (slice_get c.modules m ≡ Some M) × (is_normal M.kind ≡ true)
  pub different : (j k m : ℕ) → slice_get c.members j ≡ Some m → slice_get c.members k ≡ Some m → j ≡ k
  -- each runs after its predecessor, or has the same place in the order
  pub not_falling : (k m n : ℕ) (M N : Module) → slice_get c.members k ≡ Some m → slice_get c.members (suc k) ≡ Some n → slice_get c.modules m ≡ Some M → slice_get c.modules n ≡ Some N → M.order ≤ N.order

pub record SoundOther (c : Chunk) (o : OtherChunk) : Type 0 where
  pub imports : (j : ℕ) (q : SymbolRef) → slice_get o.imports j ≡ Some q → There c q
  -- names can be made from the hint of its helper
  pub hint : is_base (hint o.name) ≡ true

pub record SoundLists (c : Chunk) : Type 0 where
  pub globals : (k : ℕ) (n : Name) → slice_get c.globals k ≡ Some n → Fit n
  pub direct : (k m : ℕ) → slice_get c.direct k ≡ Some m → m < length c.modules
  pub entry_level : (k m : ℕ) → slice_get c.entry_level k ≡ Some m → m < length c.modules
  pub indirect : (k m : ℕ) → slice_get c.indirect k ≡ Some m → m < length c.modules
  pub entry : (k : ℕ) (e : EntrySymbol) → slice_get c.entry k ≡ Some e → There c e.symbol
  pub used : (k : ℕ) (q : SymbolRef) → slice_get c.used k ≡ Some q → There c q
  pub synthetic : (k : ℕ) (q : SymbolRef) → slice_get c.synthetic k ≡ Some q → There c q
  pub others : (k : ℕ) (o : OtherChunk) → slice_get c.others k ≡ Some o → SoundOther c o
  -- each of the other chunks has a greater number than its predecessor
  pub rising : (k : ℕ) (o p : OtherChunk) → slice_get c.others k ≡ Some o → slice_get c.others (suc k) ≡ Some p → o.number < p.number

pub record Sound (c : Chunk) : Type 0 where
  pub limits : SoundLimits c
  pub format : (f : Format) × (of_code c.format ≡ Some f)
  pub runtime : (m : ℕ) → c.runtime ≡ Some m → m < length c.modules
  -- every chain of links ends
  pub ends : (q : SymbolRef) → link_of c (canonical c q) ≡ None
  pub modules : (m : ℕ) (M : Module) → slice_get c.modules m ≡ Some M → SoundModule c M
  pub members : SoundMembers c
  pub lists : SoundLists c
