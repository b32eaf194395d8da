use Rattle.std.proofs.Common.{rules, reverse, sym, subst}
use Rattle.std.proofs.lemmas.List.{length_push}
use Rattle.std.proofs.lemmas.Iterator.Adapters.{YieldsList-from_rev_slice}
use Rattle.std.proofs.lemmas.Iterator.Consumers.{YieldsList-turn, YieldsList-end}
use Rattle.std.proofs.lemmas.Result.{err_from_is_err_and}
use Rattle.renamer.specs.State.{chunk_in}
use Rattle.deconflict_chunk_symbols.specs.Performing.{Midway}
use Rattle.deconflict_chunk_symbols.specs.Run.{member_calls}
use Rattle.deconflict_chunk_symbols.proofs.Turns.{keeps_all, carried_list, at_first, turn, stop, done}
use Rattle.deconflict_chunk_symbols.proofs.modules.name_modules.Goals as goal

pub loop-number-init : goal.loop-number-init
loop-number-init c = at_first member_calls (reverse (chunk_in c.args.renamer.now).members) c.args.renamer.now

pub loop-number-preserved : goal.loop-number-preserved
loop-number-preserved c =
    let s = c.loop-number.renamer in
    let at = YieldsList-turn (YieldsList-from_rev_slice (chunk_in c.args.renamer.now).members (search rules)) c.loop-number.yielded _ c.loop-number.yielded_by _ c.next.new.self c.in-Some.number c.in-Some.is c.next.ensures.steps in
    let here = carried_list member_calls (keeps_all s) at.1 c.in_ok-name_module.ensures in
    let next = turn member_calls (reverse (chunk_in c.args.renamer.now).members) c.loop-number.invariant c.in-Some.number.now at.0 here in
    subst (λ n. Midway member_calls (reverse (chunk_in c.args.renamer.now).members) n c.args.renamer.now c.name_module.new.renamer) (sym (length_push c.loop-number.yielded c.in-Some.number)) next

pub returns-in_err-name_module : goal.returns-in_err-name_module
returns-in_err-name_module c =
    let p = err_from_is_err_and c.from_residual.result c.from_residual.ensures.1 in
    let s = c.loop-number.renamer in
    let at = YieldsList-turn (YieldsList-from_rev_slice (chunk_in c.args.renamer.now).members (search rules)) c.loop-number.yielded _ c.loop-number.yielded_by _ c.next.new.self c.in-Some.number c.in-Some.is c.next.ensures.steps in
    let here = carried_list member_calls (keeps_all s) at.1 c.in_err-name_module.ensures in
    rw (p.1, p.2) (stop member_calls (reverse (chunk_in c.args.renamer.now).members) c.loop-number.invariant c.in-Some.number.now at.0 here)

pub returns : goal.returns
returns c =
    let over = YieldsList-end (YieldsList-from_rev_slice (chunk_in c.args.renamer.now).members (search rules)) c.loop-number.yielded _ c.loop-number.yielded_by _ c.next.new.self c.in-None.is c.next.ensures.steps in
    done member_calls (reverse (chunk_in c.args.renamer.now).members) c.loop-number.invariant (rw (over.1) (search rules))
