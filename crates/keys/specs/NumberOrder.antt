-- That the orders of symbols and of chunks are strict. Assumes nothing.
use Rattle.std.proofs.Common.{rules}
use Rattle.keys.specs.Order.{Strict}
use Rattle.keys.specs.Refs.{symbol_under, chunk_under}

pub symbol_order : Strict symbol_under
symbol_order = search rules

pub chunk_order : Strict chunk_under
chunk_order = search rules
