-- A walk along a chain. Assumes nothing.
use Rattle.std.proofs.Common.{◌≡◌, ◌==◌, ◌&&◌, ℕ, ◌%◌, ◌<◌, ◌≤◌, Bool, true, false, List, length, get_or, is_some, Some, None, Option, Decides, sym, refl, ap, ◌∙◌, subst, ⊎_elim, arith}
use Rattle.std.specs.Option.{MatchOption}
use Rattle.std.proofs.lemmas.Bool.{cases_Bool, cases_eq, cases_lt, eq-eqb}
use Rattle.keyed_table.specs.Links.{Wired, held, homes, latest}
use Rattle.keyed_table.specs.Model.{Absent, Last}
use Rattle.keyed_table.specs.declared.slot.Entry.{Entry}
use Rattle.keyed_table.specs.declared.slot.Slot.{Slot}
use Rattle.keyed_table.proofs.Latest.{upto, latest_le, latest_home, latest_none}
use Rattle.keyed_table.proofs.Held.{shows_held, some_of, get_or_homes}

-- where one hash follows from what is asked of the keys, to ask it too changes nothing
hashes_agree : (g h : ℕ) (t : Bool) → (t ≡ true → g ≡ h) → (g == h && t) ≡ t
hashes_agree g h true same = ap (λ b. b && true) (eq-eqb g h (same refl))
hashes_agree g h false same = ⊎_elim (ap (λ b. b && false)) (ap (λ b. b && false)) (cases_Bool (g == h))

module _ {K V : Type 0} (alike : K → K → Bool) (hashed : K → ℕ) (slots : List (Slot K V)) (len : ℕ) (k : K) where
  -- `at` is in the key's chain, and the key stands at no place after it, or at none where there is no `at`
  pub record Seeking (at : Option ℕ) : Type 0 where
    pub within : upto at ≤ len
    pub home : (i : ℕ) → at ≡ Some i → get_or (homes hashed (length slots) (held slots len)) i 0 ≡ hashed k % length slots
    pub after : (j : ℕ) (d : Entry K V) → upto at ≤ j → j < len → alike (get_or (held slots len) j d).key k ≡ false

  module _ (tells : (x y : K) → Decides (alike x y) (x ≡ y)) (w : Wired hashed slots len) where
    -- an entry in another bucket is not the key's
    other_home : (j : ℕ) (d : Entry K V) → j < len → (get_or (homes hashed (length slots) (held slots len)) j 0 ≡ hashed k % length slots → ⊥) → alike (get_or (held slots len) j d).key k ≡ false
    other_home j d l ne =
        let shows = shows_held slots len w.within w.full in
        let home = get_or_homes hashed (length slots) (held slots len) j d (omega arith) in
        ⊎_elim
        (λ t. absurd (ne (home ∙ ap (λ x. hashed x % length slots) ((tells (get_or (held slots len) j d).key k).0 t))))
        (λ f. f)
        (cases_Bool (alike (get_or (held slots len) j d).key k))

    -- the newest of the key's bucket below n, where the key stands at no place from n on
    seeking_latest : (n : ℕ) → n ≤ len → ((j : ℕ) (d : Entry K V) → n ≤ j → j < len → alike (get_or (held slots len) j d).key k ≡ false) → Seeking (latest (homes hashed (length slots) (held slots len)) (hashed k % length slots) n)
    seeking_latest n l past =
        let hs = homes hashed (length slots) (held slots len) in
        let b = hashed k % length slots in
        record {
          within = let m = latest_le hs b n in omega arith;
          home = latest_home hs b n;
          after = λ j d m o. ⊎_elim (λ lt. other_home j d o (latest_none hs b n j m lt)) (λ ge. past j d ge o) (cases_lt j n);
        }

    pub seeking_start : (s : Slot K V) → hashed k % length slots < length slots → Seeking (get_or slots (hashed k % length slots) s).head
    seeking_start s l = subst Seeking (sym (w.heads (hashed k % length slots) s l)) (seeking_latest len (omega arith) (λ j d m n. absurd (omega arith)))

    module _ (at : Option ℕ) (i : ℕ) (s : Slot K V) (inv : Seeking at) (at-is : at ≡ Some i) (is : s ≡ get_or slots i s) where
      in_chain : Seeking (Some i)
      in_chain = subst Seeking at-is inv

      -- the slot is full
      whole : (e : Entry K V) × (s.entry ≡ Some e)
      whole = let l = in_chain.within in some_of s.entry (ap (λ x. is_some x.entry) is ∙ w.full i s (omega arith))

      -- what the slot holds is the entry at i
      entry_is : (d : Entry K V) → get_or (held slots len) i d ≡ whole.0
      entry_is d =
          let l = in_chain.within in
          let shown = (shows_held slots len w.within w.full).1 i s d (omega arith) in
          let here : s.entry ≡ (get_or slots i s).entry = ap (λ x. x.entry) is in
          let e = whole.1 in
          cc

      -- the slot's hash is that of the key, if it holds the key's entry
      one_hash : alike (whole.0).key k ≡ true → s.hash ≡ hashed k
      one_hash t =
          let l = in_chain.within in
          ap (λ x. x.hash) is ∙ w.hashes i s (whole.0) (omega arith) ∙ ap (λ x. hashed x.key) (entry_is (whole.0)) ∙ ap hashed ((tells (whole.0).key k).0 t)

      -- what a test of the slot for the key and its hash tells of the entry at i
      told : (h : ℕ) → h ≡ hashed k → (r : Bool) → MatchOption s.entry (r ≡ false) (λ e. r ≡ (s.hash == h && alike e.key k)) → (d : Entry K V) → alike (get_or (held slots len) i d).key k ≡ r
      told h hash r m d =
          let both : r ≡ (s.hash == h && alike (whole.0).key k) = subst (λ o. MatchOption o (r ≡ false) (λ e. r ≡ (s.hash == h && alike e.key k))) whole.1 m in
          ap (λ x. alike x.key k) (entry_is d) ∙ sym (both ∙ hashes_agree s.hash h (alike (whole.0).key k) (λ t. one_hash t ∙ sym hash))

      next_is : s.next ≡ latest (homes hashed (length slots) (held slots len)) (hashed k % length slots) i
      next_is =
          let l = in_chain.within in
          ap (λ x. x.next) is ∙ w.nexts i s (omega arith)
          ∙ ap (λ b. latest (homes hashed (length slots) (held slots len)) b i) (in_chain.home i refl)

      pub next_less : upto s.next < upto at
      next_less = omega (arith, ap upto at-is, ap upto next_is, latest_le (homes hashed (length slots) (held slots len)) (hashed k % length slots) i)

      pub seeking_next : (h : ℕ) → h ≡ hashed k → (r : Bool) → r ≡ false → MatchOption s.entry (r ≡ false) (λ e. r ≡ (s.hash == h && alike e.key k)) → Seeking s.next
      seeking_next h hash r other m =
          let l = in_chain.within in
          subst Seeking (sym next_is)
          (seeking_latest i (omega arith) (λ j d o n. ⊎_elim
          (λ eq. ap (λ x. alike (get_or (held slots len) x d).key k) eq ∙ told h hash r m d ∙ other)
          (λ ne. in_chain.after j d (omega arith) n)
          (cases_eq j i)))

      pub sought_here : (h : ℕ) → h ≡ hashed k → MatchOption s.entry (true ≡ false) (λ e. true ≡ (s.hash == h && alike e.key k)) → Last alike (held slots len) k i
      sought_here h hash m =
          let l = in_chain.within in
          let shown = (shows_held slots len w.within w.full).0 in
          record {
            within = omega arith;
            here = told h hash true m;
            after = λ j d o n. in_chain.after j d (omega arith) (omega arith);
          }

    pub sought_none : Seeking None → Absent alike (held slots len) k
    sought_none inv j d l = let shown = (shows_held slots len w.within w.full).0 in inv.after j d (omega arith) (omega arith)
