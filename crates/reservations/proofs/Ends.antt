-- What reserving names leaves on record, and why it is refused. Assumes nothing.
use Rattle.std.proofs.Common.{◌≡◌, ℕ, ◌≤◌, Bool, true, false, cond, ◌||◌, ◌⊎◌, List, [], ◌∷◌, length, is_some, Some, None, Option, sym, refl, ap, subst, ◌∙◌, inl, inr, arith}
use Rattle.std.specs.Str.{bytes_eq}
use Rattle.std.proofs.lemmas.Bool.{both_ways, or_left, or_right}
use Rattle.std.proofs.lemmas.List.{length_push}
use Rattle.std.proofs.lemmas.Slice.Eq.{bytes_eq-Decides}
use Rattle.names.specs.Bases.{is_base}
use Rattle.chunk_tables.specs.Lists.{maybe}
use Rattle.conflict_resolver.specs.Records.{Record, counter_of, recording, Apart}
use Rattle.conflict_resolver.specs.Rules.{Reservation, made, declined}
use Rattle.conflict_resolver.proofs.Lookups.{same_true, recorded_same, recorded_other, apart_recorded}
use Rattle.conflict_resolver.proofs.Reservations.{Ends, nameless, recorded, full, new, ends}
use Rattle.reservations.specs.Laws.{ReservesTheNames, RefusedForCause, BasesRefusedWhereFull, SoundRefusedWhereFull, ReservedAreOnRecord}
use Rattle.reservations.specs.Reserved.{among, reserved_names}
use Rattle.reservations.specs.Reserving.{following, reserve_each}
use Rattle.reservations.proofs.Bases.{bases_of_sound}

-- the counter of a name after all of ns were reserved, where o was the one before
abbrev counter_after : List (List ℕ) → List ℕ → Option ℕ → Option ℕ
counter_after ns n o = maybe o (cond (among ns n) (Some 0) None) Some

record Made (fs : List Record) (ns : List (List ℕ)) (es : List Record) : Type 0 where
  apart : Apart fs → Apart es
  counters : (n : List ℕ) → counter_of es n ≡ counter_after ns n (counter_of fs n)

made_none : (fs : List Record) → Made fs [] fs
made_none fs = record { apart = λ a. a; counters = λ n. on (counter_of fs n) }
  where
    on : (o : Option ℕ) → o ≡ maybe o None Some
    on (Some k) = refl
    on None = refl

module _ (fs : List Record) (x : List ℕ) (ns : List (List ℕ)) (n : List ℕ) where
  -- a name that was on record is passed over
  over : is_some (counter_of fs x) ≡ true → counter_after ns n (counter_of fs n) ≡ counter_after (x ∷ ns) n (counter_of fs n)
  over h = on (counter_of fs n) (bytes_eq x n) refl refl
    where
      on : (o : Option ℕ) (t : Bool) → counter_of fs n ≡ o → bytes_eq x n ≡ t → counter_after ns n o ≡ maybe o (cond (t || among ns n) (Some 0) None) Some
      on (Some k) t e s = refl
      on None false e s = refl
      on None true e s =
          let f : x ≡ n = (bytes_eq-Decides x n).0 s in
          let g : is_some (counter_of fs x) ≡ false = ap (λ d. is_some (counter_of fs d)) f ∙ ap is_some e in
          absurd (both_ways _ g h)

  -- a new one comes on record with 0
  comes : counter_of fs x ≡ None → counter_after ns n (counter_of (recording fs x) n) ≡ counter_after (x ∷ ns) n (counter_of fs n)
  comes e = on (bytes_eq x n) refl
    where
      on : (t : Bool) → bytes_eq x n ≡ t → counter_after ns n (counter_of (recording fs x) n) ≡ maybe (counter_of fs n) (cond (t || among ns n) (Some 0) None) Some
      on true s =
          let f : x ≡ n = (bytes_eq-Decides x n).0 s in
          let g : counter_of (recording fs x) n ≡ Some 0 = ap (counter_of (recording fs x)) (sym f) ∙ recorded_same fs x e in
          let h : counter_of fs n ≡ None = ap (counter_of fs) (sym f) ∙ e in
          rw (g, h) refl
      on false s = ap (counter_after ns n) (recorded_other fs x n (λ f. both_ways _ s (same_true x n (sym f))))

module _ (most : ℕ) where
  makes : (fs : List Record) (ns : List (List ℕ)) (es : List Record) → reserve_each most fs ns ≡ made es → Made fs ns es
  makes fs [] es e =
      let f : fs ≡ es = cc in
      subst (Made fs []) f (made_none fs)
  makes fs (x ∷ ns) es e = on (ends most fs x) e (λ gs. makes gs ns es)
    where
      on : {r : Reservation} → Ends most fs x r → following r (λ gs. reserve_each most gs ns) ≡ made es
          → ((gs : List Record) → reserve_each most gs ns ≡ made es → Made gs ns es) → Made fs (x ∷ ns) es
      on (nameless h) e ih = absurd (cc)
      on (full h l) e ih = absurd (cc)
      on (recorded h) e ih =
          let m = ih fs e in
          record { apart = m.apart; counters = λ n. m.counters n ∙ over fs x ns n h }
      on (new h l) e ih =
          let m = ih (recording fs x) e in
          record { apart = λ a. m.apart (apart_recorded fs x h a); counters = λ n. m.counters n ∙ comes fs x ns n h }

  abbrev Caused : List (List ℕ) → List Record → ℕ → Type 0
  Caused ns es why =
      ((why ≡ 7) × ((n : List ℕ) × (among ns n ≡ true) × (is_base n ≡ false)))
      ⊎ ((why ≡ 10) × (length es ≡ most) × ((n : List ℕ) × (among ns n ≡ true) × (counter_of es n ≡ None)))

  -- what is the cause among some names is among more
  among_more : (x : List ℕ) (ns : List (List ℕ)) (es : List Record) (why : ℕ) → Caused ns es why → Caused (x ∷ ns) es why
  among_more x ns es why (inl (e, (n, is, h))) = inl (e, (n, or_right (bytes_eq x n) (among ns n) is, h))
  among_more x ns es why (inr (e, f, (n, is, h))) = inr (e, f, (n, or_right (bytes_eq x n) (among ns n) is, h))

  first : (x : List ℕ) (ns : List (List ℕ)) → among (x ∷ ns) x ≡ true
  first x ns = or_left (bytes_eq x x) (among ns x) (same_true x x refl)

  causes : (fs : List Record) (ns : List (List ℕ)) (es : List Record) (why : ℕ) → length fs ≤ most → reserve_each most fs ns ≡ declined es why → Caused ns es why
  causes fs [] es why l e = absurd (cc)
  causes fs (x ∷ ns) es why l e = on (ends most fs x) e (λ gs. causes gs ns es why)
    where
      on : {r : Reservation} → Ends most fs x r → following r (λ gs. reserve_each most gs ns) ≡ declined es why
          → ((gs : List Record) → length gs ≤ most → reserve_each most gs ns ≡ declined es why → Caused ns es why) → Caused (x ∷ ns) es why
      on (nameless h) e ih = let f : why ≡ 7 = cc in inl (f, (x, first x ns, h))
      on (full h m) e ih =
          let f : why ≡ 10 = cc in
          let g : fs ≡ es = cc in
          let size : length fs ≡ most = omega arith in
          inr (f, rw g at size, (x, first x ns, rw g at h))
      on (recorded h) e ih = among_more x ns es why (ih fs l e)
      on (new h m) e ih =
          let size : length (recording fs x) ≤ most = omega (arith, length_push fs (record { name = x; counter = 0 })) in
          among_more x ns es why (ih (recording fs x) size e)

pub reserves_the_names : ReservesTheNames
unfolding Apart counter_of
reserves_the_names most ns es e =
    let m = makes most [] ns es e in
    (m.apart tt, m.counters)

pub refused_for_cause : RefusedForCause
refused_for_cause most ns es why e = causes most [] ns es why (omega arith) e

pub bases_refused_where_full : BasesRefusedWhereFull
bases_refused_where_full most ns es why bases e = on (refused_for_cause most ns es why e)
  where
    on : Caused most ns es why → (why ≡ 10) × (length es ≡ most) × ((n : List ℕ) × (among ns n ≡ true) × (counter_of es n ≡ None))
    on (inl (f, (n, is, h))) = absurd (both_ways _ h (bases n is))
    on (inr h) = h

pub sound_refused_where_full : SoundRefusedWhereFull
sound_refused_where_full most f c es why sound e = bases_refused_where_full most (reserved_names f c) es why (bases_of_sound f c sound) e

pub reserved_are_on_record : ReservedAreOnRecord
reserved_are_on_record most f c es coded e n is =
    let named : among (reserved_names f c) n ≡ true = subst (λ o. maybe o false (λ g. among (reserved_names g c) n) ≡ true) coded is in
    let told = (reserves_the_names most (reserved_names f c) es e).1 n in
    ap is_some (told ∙ ap (λ b. cond b (Some 0) None) named)
