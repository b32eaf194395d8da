use Rattle.std.proofs.Common.{◌≡◌, length, take, drop, sym, ap, ◌∙◌, ⊎_elim}
use mathlib.Core.Logic.{∥∥₁_elim}
use Rattle.std.proofs.lemmas.Bool.{cases_eq}
use Rattle.std.proofs.lemmas.List.{length-map}
use Rattle.keys.specs.NameOrder.{name_order}
use Rattle.keyed_table.proofs.Listings.{listed}
use Rattle.conflict_resolver.specs.Held.{rows, entries_of}
use Rattle.conflict_resolver.specs.Rows.{name_of, row_of, record_in}
use Rattle.conflict_resolver.proofs.Rows.{rows_apart}
use Rattle.conflict_resolver.proofs.resolver.ConflictResolver.list.Goals as goal

pub returns : goal.returns
returns c =
    let es = entries_of c.args.self.now in
    let rs = rows c.args.self.now in
    let n = c.len-n.result in
    let out = c.copy_out.new.out in
    let long : n ≡ length rs = c.len-n.ensures ∙ length-map es record_in ∙ sym (length-map es row_of) in
    listed name_of name_order rs (λ i j d l m e. ⊎_elim (λ same. same) (λ other. absurd (∥∥₁_elim c.args.self.now.once (hlevel) (λ o. other (rows_apart es o i j d l m e)))) (cases_eq i j)) c.args.out.now out c.by_name.new.records n long
    (ap (λ k. take k out) long ∙ c.copy_out.ensures.front)
    (ap (λ k. drop k out) long ∙ c.copy_out.ensures.rest ∙ ap (λ k. drop k c.args.out.now) (sym long))
    c.by_name.ensures.shuffled c.by_name.ensures.sorted
