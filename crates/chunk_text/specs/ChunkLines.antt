-- What the lines of a chunk's lists add to it. Assumes nothing.
use Rattle.std.specs.Prelude.{◌++◌, List, [], ◌∷◌, Result, Ok}
use Rattle.chunk_tables.specs.Model.{Chunk}
use Rattle.chunk_text.specs.declared.fault.Fault.{Fault}
use Rattle.chunk_text.specs.declared.chunk_lines.ChunkVerb.{ChunkVerb}
use Rattle.chunk_text.specs.declared.chunk_lines.ChunkVerb.TheVariants.{Globals, Runtime, Members, Direct, EntryLevel, Indirect, Entry, Used, Synthetic, Other}
use Rattle.chunk_text.specs.Gives.{◌>>=◌}
use Rattle.chunk_text.specs.Words.{Word, number_in, symbol_in, only_number, adding, once}
use Rattle.chunk_text.specs.ChunkRows.{entry_row, other_row}

-- a chunk with what a line adds to it
abbrev pub chunk_line : Chunk → ChunkVerb → List Word → Result Chunk Fault
chunk_line C Globals ws = Ok (record C { globals = C.globals ++ ws })
chunk_line C Runtime ws = only_number ws >>= λ m. once C.runtime m >>= λ o. Ok (record C { runtime = o })
chunk_line C Members ws = adding number_in C.members ws >>= λ ms. Ok (record C { members = ms })
chunk_line C Direct ws = adding number_in C.direct ws >>= λ ms. Ok (record C { direct = ms })
chunk_line C EntryLevel ws = adding number_in C.entry_level ws >>= λ ms. Ok (record C { entry_level = ms })
chunk_line C Indirect ws = adding number_in C.indirect ws >>= λ ms. Ok (record C { indirect = ms })
chunk_line C Entry ws = entry_row ws >>= λ e. Ok (record C { entry = C.entry ++ e ∷ [] })
chunk_line C Used ws = adding symbol_in C.used ws >>= λ qs. Ok (record C { used = qs })
chunk_line C Synthetic ws = adding symbol_in C.synthetic ws >>= λ qs. Ok (record C { synthetic = qs })
chunk_line C Other ws = other_row ws >>= λ o. Ok (record C { others = C.others ++ o ∷ [] })
