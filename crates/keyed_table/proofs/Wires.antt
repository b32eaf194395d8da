-- What a change of the slots keeps. Assumes nothing.
use Rattle.std.proofs.Common.{◌≡◌, ℕ, ◌+◌, ◌%◌, ◌<◌, ◌≤◌, List, [], ◌∷◌, ◌++◌, length, get_or, set, Some, sym, refl, ap, ◌∙◌, subst, ⊎_elim, arith}
use Rattle.std.proofs.lemmas.List.{length-set, length_push, length-map, map-set, get_or_default, map_push, set-get_or, get_or-set_same, get_or-set_other, get_or_push, get_or_append_left}
use Rattle.std.proofs.lemmas.Bool.{cases_eq, cond-true, cond-false, eq-eqb, ne_eqb}
use Rattle.keyed_table.specs.Links.{AllBlank, Wired, Hashes, Heads, Nexts, held, homes, latest}
use Rattle.keyed_table.specs.Model.{Distinct}
use Rattle.keyed_table.specs.declared.slot.Entry.{Entry}
use Rattle.keyed_table.specs.declared.slot.Slot.{Slot}
use Rattle.keyed_table.proofs.Latest.{latest_front, latest_push}
use Rattle.keyed_table.proofs.Held.{Shows, held_is, shows_held, full_from_shows, get_or_homes}

-- a part of each element that a write leaves as it is
kept : {X Y : Type 0} (f : X → Y) (xs : List X) (i : ℕ) (x : X) → i < length xs → ((d : X) → f (get_or xs i d) ≡ f x) → (j : ℕ) (d : X) → f (get_or (set xs i x) j d) ≡ f (get_or xs j d)
kept f xs i x l same j d =
    ⊎_elim
    (λ eq. subst (λ m. f (get_or (set xs i x) m d) ≡ f (get_or xs m d)) (sym eq) (ap f (get_or-set_same xs i x d l) ∙ sym (same d)))
    (λ ne. ap f (get_or-set_other xs i j x d ne))
    (cases_eq j i)

-- an element that was read
read : {X Y : Type 0} (f : X → Y) (xs : List X) (i : ℕ) (x : X) → i < length xs → x ≡ get_or xs i x → (d : X) → f (get_or xs i d) ≡ f x
read f xs i x l is d = ap f (get_or_default xs i d x l ∙ sym is)

module _ {K V : Type 0} (hashed : K → ℕ) where
  -- the invariant, over a list that the slots are known to hold
  wire : (slots : List (Slot K V)) (n : ℕ) (ss : List (Entry K V)) (e : Entry K V) (hs : List ℕ) → n ≤ length slots → Shows slots n ss → Hashes hashed slots n ss → homes hashed (length slots) ss ≡ hs → Heads slots n hs → Nexts slots n hs → Distinct ss → Wired hashed slots n
  wire slots n ss e hs l shows hashes is heads nexts apart =
      let held-ss = held_is slots n ss l shows in
      let all : homes hashed (length slots) (held slots n) ≡ hs = ap (homes hashed (length slots)) held-ss ∙ is in
      record {
        within = l;
        full = full_from_shows slots n ss e shows;
        hashes = subst (Hashes hashed slots n) (sym held-ss) hashes;
        heads = subst (Heads slots n) (sym all) heads;
        nexts = subst (Nexts slots n) (sym all) nexts;
        distinct = subst Distinct (sym held-ss) apart;
      }

  pub wired_blank : (slots : List (Slot K V)) → AllBlank slots → Wired hashed slots 0
  wired_blank slots all = record {
    within = omega arith;
    full = λ i d l. absurd (omega arith);
    hashes = λ i d e l. absurd (omega arith);
    heads = λ b d l. ap (λ s. s.head) (all b d l);
    nexts = λ i d l. absurd (omega arith);
    distinct = λ c. let l = c.within in omega arith;
  }

  -- ---- one replaced by another of the same key

  module _ (ss : List (Entry K V)) (i : ℕ) (e : Entry K V) (l : i < length ss) (key : (d : Entry K V) → (get_or ss i d).key ≡ e.key) where
    distinct_set : Distinct ss → Distinct (set ss i e)
    distinct_set apart c =
        let k = kept (λ x. x.key) ss i e l key in
        apart (record {
          i = c.i;
          j = c.j;
          d = c.d;
          less = c.less;
          within = subst (λ n. c.j < n) (length-set ss i e) c.within;
          key = sym (k c.i c.d) ∙ c.key ∙ k c.j c.d;
        })

    homes_set : (cap : ℕ) → homes hashed cap (set ss i e) ≡ homes hashed cap ss
    homes_set cap =
        map-set (λ x. hashed x.key % cap) ss i e
        ∙ ap (set (homes hashed cap ss) i) (ap (λ k. hashed k % cap) (sym (key e)) ∙ sym (get_or_homes hashed cap ss i e l))
        ∙ set-get_or (homes hashed cap ss) i 0

  module _ (slots : List (Slot K V)) (len : ℕ) (w : Wired hashed slots len) (i : ℕ) (e : Entry K V) (s : Slot K V) (l : i < len) (is : s ≡ get_or slots i s) where
    abbrev replaced : List (Slot K V)
    replaced = set slots i (record { hash = s.hash; entry = Some e; head = s.head; next = s.next })

    length_replaced : length replaced ≡ length slots
    length_replaced = length-set slots i _

    shows_set : Shows replaced len (set (held slots len) i e)
    shows_set =
        let shows = shows_held slots len w.within w.full in
        let m = w.within in (
          length-set (held slots len) i e ∙ shows.0,
          λ j d y n. ⊎_elim
              (λ eq. subst (λ x. (get_or replaced x d).entry ≡ Some (get_or (set (held slots len) i e) x y)) (sym eq)
              (ap (λ s. s.entry) (get_or-set_same slots i _ d (omega arith)) ∙ ap Some (sym (get_or-set_same (held slots len) i e y (omega arith)))))
              (λ ne. ap (λ s. s.entry) (get_or-set_other slots i j _ d ne) ∙ shows.1 j d y n ∙ ap Some (sym (get_or-set_other (held slots len) i j e y ne)))
              (cases_eq j i),
        )

    pub held_replaced : held replaced len ≡ set (held slots len) i e
    held_replaced = let m = w.within in let n = length_replaced in held_is replaced len _ (omega arith) shows_set

    pub wired_replaced : ((d : Entry K V) → (get_or (held slots len) i d).key ≡ e.key) → Wired hashed replaced len
    wired_replaced key =
        let ss = held slots len in
        let cap = length_replaced in
        let m = w.within in
        let n = (shows_held slots len w.within w.full).0 in
        let in' : i < length slots = omega arith in
        wire replaced len (set ss i e) e (homes hashed (length slots) ss) (omega arith) shows_set
        (λ j d x o. kept (λ s. s.hash) slots i _ in' (read (λ s. s.hash) slots i s in' is) j d ∙ w.hashes j d x o ∙ ap hashed (sym (kept (λ x. x.key) ss i e (omega arith) key j x)))
        (ap (λ c. homes hashed c (set ss i e)) cap ∙ homes_set ss i e (omega arith) key (length slots))
        (λ b d x. kept (λ s. s.head) slots i _ in' (read (λ s. s.head) slots i s in' is) b d ∙ w.heads b d (omega arith))
        (λ j d x. kept (λ s. s.next) slots i _ in' (read (λ s. s.next) slots i s in' is) j d ∙ w.nexts j d x)
        (distinct_set ss i e (omega arith) key w.distinct)

  -- ---- one more

  module _ (slots : List (Slot K V)) (len : ℕ) (w : Wired hashed slots len) (e : Entry K V) (h b : ℕ) (x y z : Slot K V) where
    abbrev filled : List (Slot K V)
    filled = set slots len (record { hash = h; entry = Some e; head = x.head; next = y.head })

    abbrev linked : List (Slot K V)
    linked = set filled b (record { hash = z.hash; entry = z.entry; head = Some len; next = z.next })

    linked_length : length linked ≡ length slots
    linked_length = length-set filled b _ ∙ length-set slots len _

    module _ (room : len < length slots) (in' : b < length slots) (home : b ≡ hashed e.key % length slots)
        (x-is : x ≡ get_or slots len x) (y-is : y ≡ get_or slots b y) (z-is : z ≡ get_or filled b z) where
      in_filled : b < length filled
      in_filled = let n = length-set slots len (record { hash = h; entry = Some e; head = x.head; next = y.head }) in omega arith

      shows_push : Shows linked (len + 1) (held slots len ++ e ∷ [])
      shows_push =
          let shows = shows_held slots len w.within w.full in (
            length_push (held slots len) e ∙ ap (λ m. m + 1) shows.0,
            λ j d v l. kept (λ s. s.entry) filled b _ in_filled (read (λ s. s.entry) filled b z in_filled z-is) j d
                ∙ ⊎_elim
                (λ eq. subst (λ m. (get_or filled m d).entry ≡ Some (get_or (held slots len ++ e ∷ []) m v)) (sym eq)
                (ap (λ s. s.entry) (get_or-set_same slots len _ d room) ∙ ap Some (sym (get_or_push (held slots len) e v len shows.0))))
                (λ ne. ap (λ s. s.entry) (get_or-set_other slots len j _ d ne) ∙ shows.1 j d v (omega arith) ∙ ap Some (sym (get_or_append_left (held slots len) (e ∷ []) v j (omega arith))))
                (cases_eq j len),
          )

      pub held_appended : held linked (len + 1) ≡ held slots len ++ e ∷ []
      held_appended = let n = linked_length in held_is linked (len + 1) _ (omega arith) shows_push

      hashes_push : h ≡ hashed e.key → Hashes hashed linked (len + 1) (held slots len ++ e ∷ [])
      hashes_push hash j d v l =
          let ss = held slots len in
          let shown = (shows_held slots len w.within w.full).0 in
          kept (λ s. s.hash) filled b _ in_filled (read (λ s. s.hash) filled b z in_filled z-is) j d
          ∙ ⊎_elim
          (λ eq. subst (λ m. (get_or filled m d).hash ≡ hashed (get_or (ss ++ e ∷ []) m v).key) (sym eq)
          (ap (λ s. s.hash) (get_or-set_same slots len _ d room) ∙ hash ∙ ap (λ y. hashed y.key) (sym (get_or_push ss e v len shown))))
          (λ ne. ap (λ s. s.hash) (get_or-set_other slots len j _ d ne) ∙ w.hashes j d v (omega arith)
          ∙ ap (λ y. hashed y.key) (sym (get_or_append_left ss (e ∷ []) v j (omega arith))))
          (cases_eq j len)

      pub wired_appended : h ≡ hashed e.key → Distinct (held slots len ++ e ∷ []) → Wired hashed linked (len + 1)
      wired_appended hash apart =
          let ss = held slots len in
          let hs = homes hashed (length slots) ss in
          let m = linked_length in
          let shown = (shows_held slots len w.within w.full).0 in
          let long : length hs ≡ len = length-map ss (λ e. hashed e.key % length slots) ∙ shown in
          wire linked (len + 1) (ss ++ e ∷ []) e (hs ++ b ∷ []) (omega arith) shows_push (hashes_push hash)
          (ap (λ c. homes hashed c (ss ++ e ∷ [])) m ∙ map_push (λ e. hashed e.key % length slots) ss e ∙ ap (λ h. hs ++ h ∷ []) (sym home))
          (λ k d l. ⊎_elim
          (λ eq. subst (λ k. (get_or linked k d).head ≡ latest (hs ++ b ∷ []) k (len + 1)) (sym eq)
          (ap (λ s. s.head) (get_or-set_same filled b _ d in_filled) ∙ sym (latest_push hs b b len long ∙ cond-true _ _ _ (eq-eqb b b refl))))
          (λ ne. ap (λ s. s.head) (get_or-set_other filled b k _ d ne)
          ∙ kept (λ s. s.head) slots len _ room (read (λ s. s.head) slots len x room x-is) k d
          ∙ w.heads k d (omega arith) ∙ sym (latest_push hs b k len long ∙ cond-false _ _ _ (ne_eqb b k (λ eq. ne (sym eq)))))
          (cases_eq k b))
          (λ j d l. kept (λ s. s.next) filled b _ in_filled (read (λ s. s.next) filled b z in_filled z-is) j d
          ∙ ⊎_elim
          (λ eq. subst (λ j. (get_or filled j d).next ≡ latest (hs ++ b ∷ []) (get_or (hs ++ b ∷ []) j 0) j) (sym eq)
          (ap (λ s. s.next) (get_or-set_same slots len _ d room) ∙ ap (λ s. s.head) y-is ∙ w.heads b y in'
          ∙ sym (ap (λ h. latest (hs ++ b ∷ []) h len) (get_or_push hs b 0 len long) ∙ latest_front hs b (b ∷ []) len (omega arith))))
          (λ ne. ap (λ s. s.next) (get_or-set_other slots len j _ d ne) ∙ w.nexts j d (omega arith)
          ∙ sym (ap (λ h. latest (hs ++ b ∷ []) h j) (get_or_append_left hs (b ∷ []) 0 j (omega arith)) ∙ latest_front hs (get_or hs j 0) (b ∷ []) j (omega arith)))
          (cases_eq j len))
          apart
