use Rattle.std.proofs.Common.{rules, ◌≡◌, ◌+◌, ◌-◌, ◌^◌, min, ap, refl, ◌∙◌}
use Rattle.std.proofs.lemmas.Fn.{fold_over, slice_gives, fronts}
use Rattle.chunk_tables.specs.Limits.{in_all}
use Rattle.chunk_tables.proofs.Counting.{count_more}
use Rattle.chunk_tables.proofs.totals.total_of.Goals as goal

pub returns : goal.returns
returns g c counts h =
    fold_over
    fronts (λ y. y.now) _
    (λ ys n. n ≡ min (in_all counts ys) (2 ^ 64 - 1))
    _
    (λ ys n x m f' j k.
    let e : m ≡ min (n + counts x.now) (2 ^ 64 - 1) = search rules in
    (count_more counts ys x.now n m j e, search rules))
    c.iter.result _ _ _
    (slice_gives _) refl c.fold.ensures.ran
    ∙ ap (λ xs. min (in_all counts xs) (2 ^ 64 - 1)) c.iter.ensures.rest
