use Rattle.std.proofs.Common.{rules, length}
use Rattle.std.proofs.lemmas.List.{length-map}
use Rattle.chunk_tables.proofs.Counting.{count_all}
use Rattle.chunk_tables.proofs.totals.Totals.of.Goals as goal

pub returns : goal.returns
returns c =
    let e = c.as_slice-modules.ensures.value in
    record {
      scopes = count_all (λ M. length M.parents) e (c.total_of.ensures _ (λ m n h. search (rules, length-map)));
      symbols = count_all (λ M. length M.symbols) e (c.total_of-2.ensures _ (λ m n h. search (rules, length-map)));
      references = count_all (λ M. length M.references) e (c.total_of-3.ensures _ (λ m n h. search (rules, length-map)));
    }
