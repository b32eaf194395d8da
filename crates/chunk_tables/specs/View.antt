-- The tables that the code's structs hold. Assumes nothing.
use Rattle.std.specs.Prelude.{ℕ, map, vec_items}
use Rattle.chunk_tables.specs.Model.{Symbol, Unresolved, Statement, Module, OtherChunk, Chunk}
use Rattle.chunk_tables.specs.declared.parts.Scope as scope
use Rattle.chunk_tables.specs.declared.parts.Symbol as symbol
use Rattle.chunk_tables.specs.declared.parts.Unresolved as unresolved
use Rattle.chunk_tables.specs.declared.parts.Statement as statement
use Rattle.chunk_tables.specs.declared.chunk.Module as modules
use Rattle.chunk_tables.specs.declared.chunk.OtherChunk as other
use Rattle.chunk_tables.specs.declared.chunk.Chunk as chunk

abbrev pub symbol_of : symbol.Symbol → Symbol
symbol_of y = record { name = vec_items y.name; scope = y.scope; bound = y.bound; link = y.link; alias = y.alias }

abbrev pub unresolved_of : unresolved.Unresolved → Unresolved
unresolved_of u = record { name = vec_items u.name; scope = u.scope }

abbrev pub statement_of : statement.Statement → Statement
statement_of s = record { kept = s.kept; external = s.external_import; declared = vec_items s.declared }

abbrev pub parent_of : scope.Scope → ℕ
parent_of s = s.parent

abbrev pub module_of : modules.Module → Module
module_of m = record {
  kind = m.kind;
  order = m.exec_order;
  wrapped = m.wrapped;
  hot = m.hmr_hot;
  this = m.cjs_this;
  default = m.default_export;
  dynamic_import = m.dynamic_import;
  file_url = m.file_url;
  uses_module = m.uses_module;
  uses_either = m.uses_module_or_exports;
  parents = map parent_of (vec_items m.scopes);
  symbols = map symbol_of (vec_items m.symbols);
  references = vec_items m.references;
  shims = vec_items m.shims;
  imports = vec_items m.named_imports;
  unresolved = map unresolved_of (vec_items m.unresolved);
  statements = map statement_of (vec_items m.statements);
}

abbrev pub other_of : other.OtherChunk → OtherChunk
other_of o = record { number = o.index.0; name = vec_items o.name; imports = vec_items o.imports }

abbrev pub chunk_of : chunk.Chunk → Chunk
chunk_of c = record {
  format = c.format;
  records = c.records;
  globals = map vec_items (vec_items c.globals);
  runtime = c.runtime;
  modules = map module_of (vec_items c.modules);
  members = vec_items c.chunk_modules;
  direct = vec_items c.direct_externals;
  entry_level = vec_items c.entry_externals;
  indirect = vec_items c.indirect_externals;
  entry = vec_items c.entry_symbols;
  used = vec_items c.used_external_symbols;
  synthetic = vec_items c.synthetic_symbols;
  others = map other_of (vec_items c.other_chunks);
}
