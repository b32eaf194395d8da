use Rattle.std.proofs.Common.{rules}
use Rattle.std.proofs.lemmas.Iterator.Consumers.{map_from_collect}
use Rattle.std.proofs.lemmas.Iterator.Splits.{YieldsList-from_slice_split}
use Rattle.documents.specs.Documents.{is_separator}
use Rattle.documents.proofs.Parts.{seen_parts}
use Rattle.documents.proofs.document.parts_of.Goals as goal

pub returns : goal.returns
returns c = seen_parts _ c.args.lines.now (map_from_collect _ c.collect.ensures.ran (YieldsList-from_slice_split _ (λ l. is_separator l.now) c.args.lines.now c.split.ensures.rest c.split.ensures.done c.split.ensures.closure (λ x r q k. search rules)))
