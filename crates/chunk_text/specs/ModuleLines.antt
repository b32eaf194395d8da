-- What the lines of a module add to it. Assumes nothing.
use Rattle.std.specs.Prelude.{◌++◌, List, [], ◌∷◌, Result, Ok}
use Rattle.chunk_tables.specs.Model.{Module}
use Rattle.chunk_text.specs.declared.fault.Fault.{Fault}
use Rattle.chunk_text.specs.declared.module_lines.ModuleVerb.{ModuleVerb}
use Rattle.chunk_text.specs.declared.module_lines.ModuleVerb.TheVariants.{Wrapped, DynamicImport, FileUrl, UsesModule, UsesModuleOrExports, Scope, Symbol, Hot, This, Default, Shim, Import, Unresolved, Reference, Member, Statement}
use Rattle.chunk_text.specs.Gives.{◌>>=◌}
use Rattle.chunk_text.specs.Words.{Word, mark, only_number, once}
use Rattle.chunk_text.specs.Rows.{is_first, scope_row, symbol_row, unresolved_row, reference_row, member_row, statement_row}

-- a module with what a line adds to it
abbrev pub module_line : Module → ModuleVerb → List Word → Result Module Fault
module_line M Wrapped ws = mark ws >>= λ b. Ok (record M { wrapped = b })
module_line M DynamicImport ws = mark ws >>= λ b. Ok (record M { dynamic_import = b })
module_line M FileUrl ws = mark ws >>= λ b. Ok (record M { file_url = b })
module_line M UsesModule ws = mark ws >>= λ b. Ok (record M { uses_module = b })
module_line M UsesModuleOrExports ws = mark ws >>= λ b. Ok (record M { uses_either = b })
module_line M Scope ws = scope_row (is_first M.parents) ws >>= λ p. Ok (record M { parents = M.parents ++ p ∷ [] })
module_line M Symbol ws = symbol_row ws >>= λ y. Ok (record M { symbols = M.symbols ++ y ∷ [] })
module_line M Hot ws = only_number ws >>= λ s. once M.hot s >>= λ o. Ok (record M { hot = o })
module_line M This ws = only_number ws >>= λ s. once M.this s >>= λ o. Ok (record M { this = o })
module_line M Default ws = only_number ws >>= λ s. once M.default s >>= λ o. Ok (record M { default = o })
module_line M Shim ws = only_number ws >>= λ s. Ok (record M { shims = M.shims ++ s ∷ [] })
module_line M Import ws = only_number ws >>= λ s. Ok (record M { imports = M.imports ++ s ∷ [] })
module_line M Unresolved ws = unresolved_row ws >>= λ u. Ok (record M { unresolved = M.unresolved ++ u ∷ [] })
module_line M Reference ws = reference_row ws >>= λ r. Ok (record M { references = M.references ++ r ∷ [] })
module_line M Member ws = member_row ws >>= λ r. Ok (record M { references = M.references ++ r ∷ [] })
module_line M Statement ws = statement_row ws >>= λ s. Ok (record M { statements = M.statements ++ s ∷ [] })
