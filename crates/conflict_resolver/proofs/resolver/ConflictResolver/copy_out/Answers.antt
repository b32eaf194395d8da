use Rattle.std.proofs.Common.{◌≡◌, ◌+◌, ◌<◌, [], ◌∷◌, ◌++◌, length, take, drop, get_or, sym, ap, ◌∙◌, arith}
use Rattle.std.proofs.lemmas.List.{take_more, take_more_set, take_all, drop-set-lt, drop-drop, length-map}
use Rattle.std.proofs.lemmas.Option.{slice_get-get_or, get_or_from_slice_get}
use Rattle.keyed_table.proofs.Held.{front}
use Rattle.conflict_resolver.specs.Held.{rows, entries_of}
use Rattle.conflict_resolver.specs.Rows.{row_of, record_in}
use Rattle.conflict_resolver.proofs.resolver.ConflictResolver.copy_out.Goals as goal
use Rattle.conflict_resolver.proofs.resolver.ConflictResolver.copy_out.Goals.{in-Some, in_default}

pub loop-i-preserved : goal.loop-i-preserved
loop-i-preserved c =
    let es = entries_of c.args.self.now in
    let rs = rows c.args.self.now in
    let i = c.loop-i.i in
    let out = c.loop-i.out in
    let long : length rs ≡ c.len-i-end.result = length-map es row_of ∙ sym (length-map es record_in) ∙ sym c.len-i-end.ensures in
    let h : i < length rs = omega arith in
    let m : i < length out = omega arith in
    elim c.match-record_at.branch [
      | in-Some w ↦
          let r = w.in-Some.record in
          let more : take (i + 1) rs ≡ take i rs ++ r ∷ [] = take_more rs i r h ∙ ap (λ x. take i rs ++ x ∷ []) (get_or_from_slice_get rs i r r (sym w.in-Some.ensures.row)) in (
            ap (take (i + 1)) w.out-is ∙ take_more_set out i r m ∙ ap (λ t. t ++ r ∷ []) c.loop-i.invariant.0 ∙ sym more,
            ap (drop (i + 1)) w.out-is ∙ drop-set-lt (i + 1) out i r (omega arith) ∙ sym (drop-drop 1 i out) ∙ ap (drop 1) c.loop-i.invariant.1 ∙ drop-drop 1 i c.args.out.now,
          )
      | in_default w ↦ let d = front rs (omega arith) in absurd (w.in_default.not-Some (get_or rs i d) (c.record_at.ensures.row ∙ slice_get-get_or rs i d h))
    ]

pub returns : goal.returns
returns c =
    let es = entries_of c.args.self.now in
    let rs = rows c.args.self.now in
    let long : length rs ≡ c.len-i-end.result = length-map es row_of ∙ sym (length-map es record_in) ∙ sym c.len-i-end.ensures in
    let n : c.loop-i.i ≡ length rs = omega arith in
    record {
      front = ap (λ k. take k c.loop-i.out) (sym n) ∙ c.loop-i.invariant.0 ∙ take_all c.loop-i.i rs (omega arith);
      rest = ap (λ k. drop k c.loop-i.out) (sym n) ∙ c.loop-i.invariant.1 ∙ ap (λ k. drop k c.args.out.now) n;
    }
