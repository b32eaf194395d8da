-- The lines of a module, read one after another. Assumes nothing.
use Rattle.std.proofs.Common.{ℕ, List, [], ◌∷◌, ◌++◌, Some, None, Option, Ok, codes, decimal, All, IfSome, refl, ap}
use Rattle.keys.specs.declared.refs.SymbolRef.{SymbolRef}
use Rattle.chunk_tables.specs.declared.parts.Reference.{Reference}
use Rattle.chunk_tables.specs.Model.{Module}
use Rattle.chunk_text.specs.Gives.{◌>>=◌}
use Rattle.chunk_text.specs.Words.{only_number}
use Rattle.chunk_text.specs.Rows.{is_first, scope_row, symbol_row, unresolved_row, statement_row}
use Rattle.chunk_text.specs.ChunkRows.{empty_module}
use Rattle.chunk_text.specs.Documents.{Draft}
use Rattle.chunk_text.specs.Writable.{IsNumber, IsSymbol, WritableSymbol, WritableUnresolved, WritableReference, WritableModule}
use Rattle.chunk_text.specs.Writing.{symbol_word, symbol_words_of, reference_line, statement_words_of, inner_lines}
use Rattle.chunk_text.proofs.Digits.{decimal_word, number_again}
use Rattle.chunk_text.proofs.Lines.{Leads, one, ◌then◌}
use Rattle.chunk_text.proofs.Parts.{row_lines, marks, number_of, rows_of, numbers_of}
use Rattle.chunk_text.proofs.ModuleRows.{scope_again, symbol_words, symbol_row_again, unresolved_again, reference_again, member_again, statement_words, statement_again}
use Rattle.chunk_text.proofs.Symbols.{symbol_is_word}

-- a draft whose open module is M
abbrev pub within : Draft → Module → Draft
within D M = record D { unended = Some M }

-- a reference is a line of one kind or of the other
reference_of : (D : Draft) (M : Module) (front : List Reference) (r : Reference) → WritableReference r
    → Leads (within D (record M { references = front })) (reference_line r ∷ []) (within D (record M { references = front ++ r ∷ [] }))
reference_of D M front r h = by_kind r.scope r.target r.resolved h.scope h.target h.resolved
  where
    by_kind : (s t : ℕ) (o : Option SymbolRef) → IsNumber s → IsNumber t → IfSome o IsSymbol
        → Leads (within D (record M { references = front })) (reference_line (record { scope = s; target = t; resolved = o }) ∷ []) (within D (record M { references = front ++ record { scope = s; target = t; resolved = o } ∷ [] }))
    by_kind s t None f g h = one (codes "reference") (decimal s ∷ decimal t ∷ []) refl (decimal_word s f, (decimal_word t g, tt))
        (ap (λ r. r >>= (λ x. Ok (record M { references = front ++ x ∷ [] })) >>= λ N. Ok (within D N)) (reference_again s t f g))
    by_kind s t (Some q) f g h = one (codes "member") (decimal s ∷ decimal t ∷ symbol_word q ∷ []) refl (decimal_word s f, (decimal_word t g, (symbol_is_word q h, tt)))
        (ap (λ r. r >>= (λ x. Ok (record M { references = front ++ x ∷ [] })) >>= λ N. Ok (within D N)) (member_again s t q f g h))

-- the lines between a module's first and its end
pub inner : (D : Draft) (M : Module) → WritableModule M → Leads (within D (empty_module M.kind M.order)) (inner_lines M) (within D M)
inner D M h =
    let m0 = empty_module M.kind M.order in
    let m1 = record m0 { wrapped = M.wrapped } in
    let m2 = record m1 { dynamic_import = M.dynamic_import } in
    let m3 = record m2 { file_url = M.file_url } in
    let m4 = record m3 { uses_module = M.uses_module } in
    let m5 = record m4 { uses_either = M.uses_either } in
    let m6 = record m5 { parents = M.parents } in
    let m7 = record m6 { symbols = M.symbols } in
    let m8 = record m7 { hot = M.hot } in
    let m9 = record m8 { this = M.this } in
    let m10 = record m9 { default = M.default } in
    let m11 = record m10 { shims = M.shims } in
    let m12 = record m11 { imports = M.imports } in
    let m13 = record m12 { unresolved = M.unresolved } in
    let m14 = record m13 { references = M.references } in
    marks (λ b. within D (record m0 { wrapped = b })) (codes "wrapped") refl refl M.wrapped
    then marks (λ b. within D (record m1 { dynamic_import = b })) (codes "dynamic_import") refl refl M.dynamic_import
    then marks (λ b. within D (record m2 { file_url = b })) (codes "file_url") refl refl M.file_url
    then marks (λ b. within D (record m3 { uses_module = b })) (codes "uses_module") refl refl M.uses_module
    then marks (λ b. within D (record m4 { uses_either = b })) (codes "uses_module_or_exports") refl refl M.uses_either
    then numbers_of (within D) (codes "scope") refl (λ xs. record m5 { parents = xs }) (λ front. scope_row (is_first front)) (λ front ws. refl) (λ front. scope_again (is_first front)) M.parents h.parents
    then rows_of (within D) (codes "symbol") refl (λ xs. record m6 { symbols = xs }) (λ front. symbol_row) symbol_words_of WritableSymbol (λ front ws. refl) symbol_words (λ front. symbol_row_again) M.symbols h.symbols
    then number_of (within D) (codes "hot") refl (λ o. record m7 { hot = o }) (λ ws. refl) M.hot h.hot
    then number_of (within D) (codes "this") refl (λ o. record m8 { this = o }) (λ ws. refl) M.this h.this
    then number_of (within D) (codes "default") refl (λ o. record m9 { default = o }) (λ ws. refl) M.default h.default
    then numbers_of (within D) (codes "shim") refl (λ xs. record m10 { shims = xs }) (λ front. only_number) (λ front ws. refl) (λ front. number_again) M.shims h.shims
    then numbers_of (within D) (codes "import") refl (λ xs. record m11 { imports = xs }) (λ front. only_number) (λ front ws. refl) (λ front. number_again) M.imports h.imports
    then rows_of (within D) (codes "unresolved") refl (λ xs. record m12 { unresolved = xs }) (λ front. unresolved_row) (λ u. u.name ∷ decimal u.scope ∷ []) WritableUnresolved (λ front ws. refl) (λ u k. (k.name, (decimal_word u.scope k.scope, tt))) (λ front. unresolved_again) M.unresolved h.unresolved
    then row_lines (λ xs. within D (record m13 { references = xs })) reference_line WritableReference (reference_of D m13) M.references h.references
    then rows_of (within D) (codes "statement") refl (λ xs. record m14 { statements = xs }) (λ front. statement_row) statement_words_of (λ s. All IsSymbol s.declared) (λ front ws. refl) statement_words (λ front. statement_again) M.statements h.statements
