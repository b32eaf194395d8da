use Rattle.std.proofs.Common.{ap, ◌∙◌}
use Rattle.std.proofs.lemmas.Result.{err_from_is_err_and}
use Rattle.chunk_tables.specs.View.{chunk_of}
use Rattle.deconflict_chunk_symbols.specs.Run.{namespaces_of}
use Rattle.deconflict_chunk_symbols.proofs.Turns.{keeps_all, keeps_on, carried_list, ends, goes_on}
use Rattle.deconflict_chunk_symbols.proofs.externals.name_all_namespaces.Goals as goal

pub returns-in_err-name_namespaces : goal.returns-in_err-name_namespaces
returns-in_err-name_namespaces c =
    let p = err_from_is_err_and c.from_residual.result c.from_residual.ensures.1 in
    let list = c.deref.ensures.value ∙ ap (λ k. (chunk_of k).direct) c.chunk-chunk.ensures in
    let direct = carried_list namespaces_of (keeps_all c.args.renamer.now) list c.in_err-name_namespaces.ensures in
    rw (p.1, p.2) (ends _ direct)

pub returns-in_err-name_namespaces-2 : goal.returns-in_err-name_namespaces-2
returns-in_err-name_namespaces-2 c =
    let p = err_from_is_err_and c.from_residual-in_err-name_namespaces-2.result c.from_residual-in_err-name_namespaces-2.ensures.1 in
    let list = c.deref.ensures.value ∙ ap (λ k. (chunk_of k).direct) c.chunk-chunk.ensures in
    let list-2 = c.deref-2.ensures.value ∙ ap (λ k. (chunk_of k).entry_level) c.chunk-chunk.ensures in
    let direct = carried_list namespaces_of (keeps_all c.args.renamer.now) list c.in_ok-name_namespaces.ensures in
    let entry_level = carried_list namespaces_of c.name_namespaces.ensures.keeps list-2 c.in_err-name_namespaces-2.ensures in
    rw (p.1, p.2) (goes_on direct (ends _ entry_level))

pub returns : goal.returns
returns c =
    let list = c.deref.ensures.value ∙ ap (λ k. (chunk_of k).direct) c.chunk-chunk.ensures in
    let list-2 = c.deref-2.ensures.value ∙ ap (λ k. (chunk_of k).entry_level) c.chunk-chunk.ensures in
    let list-3 = c.deref-3.ensures.value ∙ ap (λ k. (chunk_of k).indirect) c.chunk-chunk.ensures in
    let direct = carried_list namespaces_of (keeps_all c.args.renamer.now) list c.in_ok-name_namespaces.ensures in
    let entry_level = carried_list namespaces_of c.name_namespaces.ensures.keeps list-2 c.in_ok-name_namespaces-2.ensures in
    let indirect = carried_list namespaces_of (keeps_on c.name_namespaces.ensures.keeps c.name_namespaces-2.ensures.keeps) list-3 c.name_namespaces-3.ensures in
    goes_on direct (goes_on entry_level indirect)
