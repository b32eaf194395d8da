use Rattle.std.proofs.Common.{ap, ◌∙◌, sym, subst, length, ◌<◌}
use Rattle.std.specs.Option.{option_map}
use Rattle.chunk_tables.specs.Links.{symbol_at}
use Rattle.chunk_tables.specs.View.{chunk_of, symbol_of}
use Rattle.renamer.proofs.ShortNames.{not_long}
use Rattle.renamer.proofs.renamer.Renamer.root_of.Goals as goal

pub returns-in_err-new : goal.returns-in_err-new
returns-in_err-new c =
    let k = c.args.self.now.chunk.now in
    let q = c.canonical_ref_for-canonical.result in
    let stands = ap (λ t. symbol_at (chunk_of t) q) (sym c.chunk-chunk.ensures.tables) ∙ sym c.symbol_at-2.ensures ∙ ap (option_map (λ y. symbol_of y.now)) c.in-Some.is in
    absurd (not_long (chunk_of k.chunk) k.sound q (symbol_of c.in-Some.row.now) stands (subst (λ l. 105 < length l) c.deref.ensures.value c.in_err-new.ensures.1))
