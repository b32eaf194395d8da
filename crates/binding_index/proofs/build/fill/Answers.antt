use Rattle.binding_index.proofs.Turns.{finds_noted, finds_passed}
use Rattle.binding_index.proofs.build.fill.Goals as goal
use Rattle.binding_index.proofs.build.fill.Goals.{in-Some+in_ok-note, in_default}

pub loop-i-preserved : goal.loop-i-preserved
loop-i-preserved c =
    let ys = c.args.symbols.now in
    let i = c.loop-i.i in
    let y = c.index-symbols-i.result in
    let t = c.loop-i.table in
    let u = c.match-key_of.table in
    elim c.match-key_of.branch [
      | in-Some+in_ok-note w ↦ finds_noted ys i y c.loop-i-test.true c.index-symbols-i.is t u c.loop-i.invariant w.in-Some.key w.in-Some.ensures w.note.new.table w.table-is w.in_ok-note.ensures
      | in_default w ↦ finds_passed ys i y c.loop-i-test.true c.index-symbols-i.is t u c.loop-i.invariant w.in_default.ensures w.table-is
    ]
