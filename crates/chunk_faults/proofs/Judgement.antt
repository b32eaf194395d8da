-- The least fault. Assumes nothing.
use Rattle.std.proofs.Common.{◌≡◌, ℕ, zero, suc, ◌<◌, ◌≤◌, true, false, ◌⊎◌, List, [], ◌∷◌, Some, None, Option, sym, ap, ◌∙◌, inl, inr, arith}
use Rattle.std.specs.List.{slice_get, AllByRecursion as All}
use Rattle.std.proofs.lemmas.Bool.{cases_order}
use Rattle.chunk_tables.specs.Lists.{first_found}
use Rattle.chunk_faults.specs.Faults.{Fault, NotAfter, LeastFault, Judged}
use Rattle.chunk_faults.specs.Tests.{Test, least}
use Rattle.chunk_faults.proofs.Firsts.{none_some, some_same, At, found_none, found_some}

-- the numbers of a record's tests ascend
abbrev pub Ascending : List Test → Type 0
Ascending [] = Unit {0}
Ascending (t ∷ ts) = All (λ u. t.0 < u.0) ts × Ascending ts

true_false : true ≡ false → ⊥
true_false e = let z : ◌≡◌ {A = ℕ} 0 1 = cc in omega arith

-- no test holds where none is found
none_holds : (ts : List Test) (k n : ℕ) → least ts ≡ None → slice_get ts k ≡ Some (n, true) → ⊥
none_holds [] k n e h = none_some h
none_holds ((m, true) ∷ ts) k n e h = none_some (sym e)
none_holds ((m, false) ∷ ts) zero n e h = true_false (ap (λ (t : Test). t.1) (sym (some_same h)))
none_holds ((m, false) ∷ ts) (suc k) n e h = none_holds ts k n e h

-- a test behind the first has a larger number
behind : (m : ℕ) (ts : List Test) (k n : ℕ) → All (λ u. m < u.0) ts → slice_get ts k ≡ Some (n, true) → m < n
behind m [] k n a h = absurd (none_some h)
behind m (t ∷ ts) zero n a h = let e : t.0 ≡ n = ap (λ (u : Test). u.0) (some_same h) in let l = a.0 in omega arith
behind m (t ∷ ts) (suc k) n a h = behind m ts k n a.1 h

-- the one that is found holds, and no smaller one does
least_holds : (ts : List Test) (n : ℕ) → least ts ≡ Some n → (k : ℕ) × (slice_get ts k ≡ Some (n, true))
least_holds [] n e = absurd (none_some e)
least_holds ((m, true) ∷ ts) n e = (0, ap (λ i. Some (i, true)) (some_same e))
least_holds ((m, false) ∷ ts) n e = let s = least_holds ts n e in (suc s.0, s.1)

least_first : (ts : List Test) (n : ℕ) → Ascending ts → least ts ≡ Some n → (k m : ℕ) → slice_get ts k ≡ Some (m, true) → n ≤ m
least_first [] n a e k m h = absurd (none_some h)
least_first ((i, true) ∷ ts) n a e zero m h =
    let p : i ≡ n = some_same e in
    let q : i ≡ m = ap (λ (u : Test). u.0) (some_same h) in
    omega arith
least_first ((i, true) ∷ ts) n a e (suc k) m h = let p : i ≡ n = some_same e in let l = behind i ts k m a.0 h in omega arith
least_first ((i, false) ∷ ts) n a e zero m h = absurd (true_false (ap (λ (t : Test). t.1) (sym (some_same h))))
least_first ((i, false) ∷ ts) n a e (suc k) m h = least_first ts n a.1 e k m h

all_nth : {A : Type 0} (P : A → Type 0) (xs : List A) (k : ℕ) (x : A) → All P xs → slice_get xs k ≡ Some x → P x
all_nth P [] k x a h = absurd (none_some h)
all_nth P (y ∷ xs) zero x a h = rw (← some_same h) a.0
all_nth P (y ∷ xs) (suc k) x a h = all_nth P xs k x a.1 h

module _ (ts : List (List (List Test))) (ascends : All (All Ascending) ts) where
  abbrev rows_found : List (List Test) → Option ℕ
  rows_found = first_found least

  no_fault : first_found rows_found ts ≡ None → (t r n : ℕ) → Fault ts t r n → ⊥
  no_fault e t r n f =
      none_holds f.tests f.k n (found_none least f.rows (found_none rows_found ts e t f.rows f.table) r f.tests f.row) f.holds

  module _ (n : ℕ) (T : At rows_found ts n) (R : At least T.x n) where
    -- a fault of an earlier table, or of an earlier record of the table, is none
    earlier_table : (u s m : ℕ) → Fault ts u s m → u < T.k → ⊥
    earlier_table u s m f l =
        none_holds f.tests f.k m (found_none least f.rows (T.earlier u f.rows l f.table) s f.tests f.row) f.holds

    same_rows : (u s m : ℕ) (f : Fault ts u s m) → T.k ≡ u → f.rows ≡ T.x
    same_rows u s m f e = some_same (sym f.table ∙ ap (slice_get ts) (sym e) ∙ T.here)

    earlier_record : (u s m : ℕ) (f : Fault ts u s m) → T.k ≡ u → s < R.k → ⊥
    earlier_record u s m f e l =
        none_holds f.tests f.k m (R.earlier s f.tests l (ap (λ rows. slice_get rows s) (sym (same_rows u s m f e)) ∙ f.row)) f.holds

    same_tests : (u s m : ℕ) (f : Fault ts u s m) → T.k ≡ u → R.k ≡ s → f.tests ≡ R.x
    same_tests u s m f e g =
        some_same (sym f.row ∙ ap (λ rows. slice_get rows s) (same_rows u s m f e) ∙ ap (slice_get T.x) (sym g) ∙ R.here)

    smallest : (u s m : ℕ) (f : Fault ts u s m) → T.k ≡ u → R.k ≡ s → n ≤ m
    smallest u s m f e g =
        least_first R.x n (all_nth Ascending T.x R.k R.x (all_nth (All Ascending) ts T.k T.x ascends T.here) R.here) R.finds f.k m
        (ap (λ tests. slice_get tests f.k) (sym (same_tests u s m f e g)) ∙ f.holds)

    not_after : (u s m : ℕ) → Fault ts u s m → NotAfter T.k R.k n u s m
    not_after u s m f = table (cases_order T.k u)
      where
        record_of : T.k ≡ u → ((R.k ≡ s) ⊎ ((R.k < s) ⊎ (s < R.k))) → NotAfter T.k R.k n u s m
        record_of e (inl g) = inr (e, inr (g, smallest u s m f e g))
        record_of e (inr (inl l)) = inr (e, inl l)
        record_of e (inr (inr l)) = absurd (earlier_record u s m f e l)

        table : ((T.k ≡ u) ⊎ ((T.k < u) ⊎ (u < T.k))) → NotAfter T.k R.k n u s m
        table (inl e) = record_of e (cases_order R.k s)
        table (inr (inl l)) = inl l
        table (inr (inr l)) = absurd (earlier_table u s m f l)

    least_fault : LeastFault ts n
    least_fault =
        let h = least_holds R.x n R.finds in
        record {
          t = T.k;
          r = R.k;
          fault = record { rows = T.x; tests = R.x; k = h.0; table = T.here; row = R.here; holds = h.1 };
          first = not_after;
        }

  -- the verdict is the number of the least fault
  pub judged : (o : Option ℕ) → first_found rows_found ts ≡ o → Judged ts o
  judged None e = no_fault e
  judged (Some n) e = let T = found_some rows_found ts n e in least_fault n T (found_some least T.x n T.finds)
