use Rattle.std.proofs.Common.{◌+◌, get_or, sym, ◌∙◌, arith}
use Rattle.keys.specs.NameOrder.{name_agrees}
use Rattle.documents.proofs.records.write_records.Goals as goal

pub returns-clause-ascending : goal.returns-clause-ascending
returns-clause-ascending c = λ k d l.
    let rs = c.sort_unstable.new.self in
    sym (name_agrees (get_or rs (k + 1) d).name (get_or rs k d).name) ∙ c.sort_unstable.ensures.sorted k d (omega arith) (omega arith)
