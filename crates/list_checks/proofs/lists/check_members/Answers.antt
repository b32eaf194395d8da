use Rattle.std.proofs.Common.{rules, ap, ◌∙◌}
use Rattle.chunk_tables.specs.Lists.{first_found}
use Rattle.chunk_tables.specs.View.{chunk_of}
use Rattle.chunk_faults.specs.ListRows.{member_tests}
use Rattle.chunk_faults.specs.Tests.{least, each_row}
use Rattle.row_checks.proofs.Told.{told_rows}
use Rattle.list_checks.proofs.lists.check_members.Goals as goal

pub returns : goal.returns
returns c =
    let f = member_tests (chunk_of c.args.chunk.now) in
    c.check_rows.ensures (λ i m. least (f i m)) (λ i x r l h. search rules) ∙ told_rows f 0 _ ∙ ap (λ ms. first_found least (each_row f ms)) c.deref.ensures.value
