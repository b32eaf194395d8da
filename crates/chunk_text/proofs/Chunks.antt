-- The lines of a chunk's tables, read one after another. Assumes nothing.
use Rattle.std.proofs.Common.{List, [], ◌∷◌, ◌++◌, None, Ok, codes, decimal, refl, ap}
use Rattle.std.proofs.lemmas.List.Elements.{recursion_from_All}
use Rattle.chunk_tables.specs.Model.{Module, Chunk}
use Rattle.chunk_text.specs.Gives.{◌>>=◌}
use Rattle.chunk_text.specs.Words.{number_in, symbol_in}
use Rattle.chunk_text.specs.ChunkRows.{entry_row, other_row}
use Rattle.chunk_text.specs.Documents.{Draft, empty_chunk}
use Rattle.chunk_text.specs.Writable.{IsNumber, IsWord, IsSymbol, WritableModule, WritableOther, WritableChunk}
use Rattle.chunk_text.specs.Writing.{symbol_word, kind_word, entry_words_of, other_words_of, module_lines, chunk_lines}
use Rattle.chunk_text.proofs.ChunkRows.{module_words, module_again, entry_words, entry_again, other_words, other_again}
use Rattle.chunk_text.proofs.Digits.{decimal_word, number_again}
use Rattle.chunk_text.proofs.Lines.{Leads, one, ◌then◌}
use Rattle.chunk_text.proofs.Modules.{within, inner}
use Rattle.chunk_text.proofs.Parts.{rows, number_of, rows_of, list_of}
use Rattle.chunk_text.proofs.Symbols.{symbol_again, symbol_is_word}

-- a draft with no open module, and with C
abbrev pub outside : Draft → Chunk → Draft
outside D C = record D { unended = None; chunk = C }

-- a module, from its first line to its end
module_of : (D : Draft) (C : Chunk) (front : List Module) (M : Module) → WritableModule M
    → Leads (outside D (record C { modules = front })) (module_lines M) (outside D (record C { modules = front ++ M ∷ [] }))
module_of D C front M h =
    let E = outside D (record C { modules = front }) in
    one (codes "module") (kind_word M.kind ∷ decimal M.order ∷ []) refl (module_words M.kind M.order h.kind h.order) (ap (λ r. r >>= λ M. Ok (within E M)) (module_again M.kind M.order h.kind h.order))
    then inner E M h
    then one (codes "end") [] refl tt refl

-- the tables of a chunk, but for its format and its number of records
pub tables : (D : Draft) (C : Chunk) → WritableChunk C → Leads (outside D empty_chunk) (chunk_lines C) (outside D (record C { format = 0; records = 0 }))
tables D C h =
    let c1 = record empty_chunk { globals = C.globals } in
    let c2 = record c1 { runtime = C.runtime } in
    let c3 = record c2 { modules = C.modules } in
    let c4 = record c3 { members = C.members } in
    let c5 = record c4 { direct = C.direct } in
    let c6 = record c5 { entry_level = C.entry_level } in
    let c7 = record c6 { indirect = C.indirect } in
    let c8 = record c7 { entry = C.entry } in
    let c9 = record c8 { used = C.used } in
    let c10 = record c9 { synthetic = C.synthetic } in
    one (codes "globals") C.globals refl (recursion_from_All IsWord C.globals h.globals) refl
    then number_of (outside D) (codes "runtime") refl (λ o. record c1 { runtime = o }) (λ ws. refl) C.runtime h.runtime
    then rows (λ ms. outside D (record c2 { modules = ms })) module_lines WritableModule (module_of D c2) [] C.modules h.modules
    then list_of (outside D) (codes "chunk") refl (λ xs. record c3 { members = xs }) number_in decimal IsNumber (λ ws. refl) decimal_word number_again C.members h.members
    then list_of (outside D) (codes "direct") refl (λ xs. record c4 { direct = xs }) number_in decimal IsNumber (λ ws. refl) decimal_word number_again C.direct h.direct
    then list_of (outside D) (codes "entry_externals") refl (λ xs. record c5 { entry_level = xs }) number_in decimal IsNumber (λ ws. refl) decimal_word number_again C.entry_level h.entry_level
    then list_of (outside D) (codes "indirect") refl (λ xs. record c6 { indirect = xs }) number_in decimal IsNumber (λ ws. refl) decimal_word number_again C.indirect h.indirect
    then rows_of (outside D) (codes "entry") refl (λ xs. record c7 { entry = xs }) (λ front. entry_row) entry_words_of (λ e. IsSymbol e.symbol) (λ front ws. refl) entry_words (λ front. entry_again) C.entry h.entry
    then list_of (outside D) (codes "used") refl (λ xs. record c8 { used = xs }) symbol_in symbol_word IsSymbol (λ ws. refl) symbol_is_word symbol_again C.used h.used
    then list_of (outside D) (codes "synthetic") refl (λ xs. record c9 { synthetic = xs }) symbol_in symbol_word IsSymbol (λ ws. refl) symbol_is_word symbol_again C.synthetic h.synthetic
    then rows_of (outside D) (codes "other") refl (λ xs. record c10 { others = xs }) (λ front. other_row) other_words_of WritableOther (λ front ws. refl) other_words (λ front. other_again) C.others h.others
