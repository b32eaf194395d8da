-- The words of a chunk's rows, and what they are read as. Assumes nothing.
use Rattle.std.proofs.Common.{◌≡◌, ℕ, zero, suc, ◌≤◌, Bool, true, false, cond, List, [], ◌∷◌, map, Ok, codes, decimal, refl, sym, ap, arith}
use Rattle.keys.specs.declared.refs.SymbolRef.{SymbolRef}
use Rattle.chunk_tables.specs.declared.chunk.EntrySymbol.{EntrySymbol}
use Rattle.chunk_tables.specs.declared.parts.ModuleKind.{ModuleKind}
use Rattle.chunk_tables.specs.declared.parts.ModuleKind.TheVariants.{Normal, External}
use Rattle.chunk_tables.specs.Model.{OtherChunk}
use Rattle.session_memory.specs.declared.sizes.MemorySizes.{MemorySizes}
use Rattle.chunk_text.specs.Words.{Word, number_in, symbol_in, each}
use Rattle.chunk_text.specs.ChunkRows.{format_code, memory_row, kind_in, empty_module, module_row, entry_row, other_row}
use Rattle.chunk_text.specs.Writable.{IsNumber, IsWord, IsSymbol, WritableKind, WritableOther, WritableSizes}
use Rattle.chunk_text.specs.Writing.{symbol_word, format_word, kind_word, memory_words_of, entry_words_of, other_words_of}
use Rattle.chunk_text.proofs.Digits.{decimal_word, number_again}
use Rattle.chunk_text.proofs.Lines.{AreWords}
use Rattle.chunk_text.proofs.ModuleRows.{constant, each_again, are_words, marked_words}
use Rattle.chunk_text.proofs.Symbols.{symbol_again, symbol_is_word}

-- the word of a format's code is a word, and says the code
pub format_again : (n : ℕ) → n ≤ 4 → IsWord (format_word n) × (format_code (format_word n) ≡ n)
format_again zero h = (constant (codes "-") refl refl, refl)
format_again (suc zero) h = (constant (codes "esm") refl refl, refl)
format_again (suc (suc zero)) h = (constant (codes "cjs") refl refl, refl)
format_again (suc (suc (suc zero))) h = (constant (codes "iife") refl refl, refl)
format_again (suc (suc (suc (suc zero)))) h = (constant (codes "umd") refl refl, refl)
format_again (suc (suc (suc (suc (suc n))))) h = absurd (omega arith)

kind_again : (k : ModuleKind) → WritableKind k → IsWord (kind_word k) × (kind_in (kind_word k) ≡ Ok k)
kind_again Normal h = (constant (codes "normal") refl refl, refl)
kind_again (External n) h = (constant (codes "external") refl refl, ap (λ m. Ok (External m)) (sym h))

module_read : (v w : Word) (k : ModuleKind) (n : ℕ) → kind_in v ≡ Ok k → number_in w ≡ Ok n → module_row (v ∷ w ∷ []) ≡ Ok (empty_module k n)
module_read v w k n e f = rw (e, f)

pub module_words : (k : ModuleKind) (n : ℕ) → WritableKind k → IsNumber n → AreWords (kind_word k ∷ decimal n ∷ [])
module_words k n h fits = ((kind_again k h).0, (decimal_word n fits, tt))

pub module_again : (k : ModuleKind) (n : ℕ) → WritableKind k → IsNumber n → module_row (kind_word k ∷ decimal n ∷ []) ≡ Ok (empty_module k n)
module_again k n h fits = module_read (kind_word k) (decimal n) k n (kind_again k h).1 (number_again n fits)

memory_read : (r n i m h : Word) (z : MemorySizes) → number_in r ≡ Ok z.records → number_in n ≡ Ok z.names → number_in i ≡ Ok z.inner → number_in m ≡ Ok z.marks → number_in h ≡ Ok z.helpers → memory_row (r ∷ n ∷ i ∷ m ∷ h ∷ []) ≡ Ok z
memory_read r n i m h z a b c d e = rw (a, b, c, d, e)

pub memory_words : (z : MemorySizes) → WritableSizes z → AreWords (memory_words_of z)
memory_words z h = (decimal_word z.records h.records, (decimal_word z.names h.names, (decimal_word z.inner h.inner, (decimal_word z.marks h.marks, (decimal_word z.helpers h.helpers, tt)))))

pub memory_again : (z : MemorySizes) → WritableSizes z → memory_row (memory_words_of z) ≡ Ok z
memory_again z h = memory_read (decimal z.records) (decimal z.names) (decimal z.inner) (decimal z.marks) (decimal z.helpers) z
    (number_again z.records h.records) (number_again z.names h.names) (number_again z.inner h.inner) (number_again z.marks h.marks) (number_again z.helpers h.helpers)

entry_read : (w : Word) (q : SymbolRef) (b : Bool) → symbol_in w ≡ Ok q → entry_row (w ∷ cond b (codes "cjs" ∷ []) []) ≡ Ok (record { symbol = q; came_from_cjs = b })
entry_read w q true e = rw e
entry_read w q false e = rw e

pub entry_words : (e : EntrySymbol) → IsSymbol e.symbol → AreWords (entry_words_of e)
entry_words e h = (symbol_is_word e.symbol h, marked_words e.came_from_cjs _ (constant (codes "cjs") refl refl))

pub entry_again : (e : EntrySymbol) → IsSymbol e.symbol → entry_row (entry_words_of e) ≡ Ok e
entry_again e h = entry_read (symbol_word e.symbol) e.symbol e.came_from_cjs (symbol_again e.symbol h)

other_read : (k n : Word) (ws : List Word) (number : ℕ) (qs : List SymbolRef) → number_in k ≡ Ok number → each symbol_in ws ≡ Ok qs → other_row (k ∷ n ∷ ws) ≡ Ok (record { number = number; name = n; imports = qs })
other_read k n ws number qs e f = rw (e, f)

pub other_words : (o : OtherChunk) → WritableOther o → AreWords (other_words_of o)
other_words o h = (decimal_word o.number h.number, (h.name, are_words symbol_word IsSymbol symbol_is_word o.imports h.imports))

pub other_again : (o : OtherChunk) → WritableOther o → other_row (other_words_of o) ≡ Ok o
other_again o h = other_read (decimal o.number) o.name (map symbol_word o.imports) o.number o.imports (number_again o.number h.number) (each_again symbol_in symbol_word IsSymbol symbol_again o.imports h.imports)
