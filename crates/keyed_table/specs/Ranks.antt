-- Entries compared by their keys are in a total order. Assumes nothing.
use Rattle.std.proofs.Common.{◌≡◌, Bool, true, false, cond, Ordering, Less, Equal, Greater, Decides, sym, refl, ap, ◌∙◌, ⊎_elim}
use Rattle.std.specs.Cmp.{IsTotalOrder, IsEquivalence, Equal-is, on_equiv, decided}
use Rattle.std.specs.Ordering.{is_lt, is_eq, ordering_reverse, eq_by_cmp}
use Rattle.std.specs.Bool.{one_answer}
use Rattle.std.proofs.lemmas.Bool.{cases_Bool, cond-true, false≢true}
use Rattle.keys.specs.Order.{Strict}
use Rattle.keyed_table.specs.declared.slot.Entry.{Entry}

-- the answer for two tests, that of `x below y` and that of `y below x`
abbrev pub answer : Bool → Bool → Ordering
answer a b = cond a Less (cond b Greater Equal)

-- how two keys compare
abbrev pub ranked : {K : Type 0} → (K → K → Bool) → K → K → Ordering
ranked under x y = answer (under x y) (under y x)

answer_turned : (a b : Bool) → (a ≡ true → b ≡ false) → answer a b ≡ ordering_reverse (answer b a)
answer_turned true true h = absurd (false≢true (sym (h refl)))
answer_turned true false h = refl
answer_turned false true h = refl
answer_turned false false h = refl

pub answer_lt : (a b : Bool) → is_lt (answer a b) ≡ a
answer_lt true b = refl
answer_lt false true = refl
answer_lt false false = refl

answer_eq : (a b : Bool) → answer a b ≡ Equal → (a ≡ false) × (b ≡ false)
answer_eq true b h = absurd (false≢true (ap is_eq h))
answer_eq false true h = absurd (false≢true (ap is_eq h))
answer_eq false false h = (refl, refl)

module _ {K : Type 0} {under : K → K → Bool} (o : Strict under) where
  asym : (x y : K) → under x y ≡ true → under y x ≡ false
  asym x y h = ⊎_elim (λ t. absurd (false≢true (sym (o.irrefl x) ∙ o.trans x y x h t))) (λ f. f) (cases_Bool (under y x))

  less : (x y : K) → ranked under x y ≡ Less → under x y ≡ true
  less x y h = sym (answer_lt (under x y) (under y x)) ∙ ap is_lt h

  level : (x y : K) → ranked under x y ≡ Equal → x ≡ y
  level x y h = let e = answer_eq (under x y) (under y x) h in o.total x y e.0 e.1

  pub by_keys : {V : Type 0} → IsTotalOrder (λ (x y : Entry K V). ranked under x.key y.key)
  by_keys = record {
    antisymm = λ x y. answer_turned (under x.key y.key) (under y.key x.key) (asym x.key y.key);
    trans = λ x y z p q. cond-true _ _ _ (o.trans x.key y.key z.key (less x.key y.key p) (less y.key z.key q));
    congr = λ x y z p. ap (λ k. ranked under k z.key) (level x.key y.key p);
  }

  tied : (x : K) → ranked under x x ≡ Equal
  tied x = rw (o.irrefl x)

  -- keys are told to be equal just where neither is below the other
  pub ties : {V : Type 0} {alike : K → K → Bool} → ((x y : K) → Decides (alike x y) (x ≡ y)) → (x y : Entry K V) → alike x.key y.key ≡ eq_by_cmp (λ (a b : Entry K V). ranked under a.key b.key) x y
  ties {alike = alike} tells x y =
      one_answer (alike x.key y.key) (is_eq (ranked under x.key y.key))
      (tells x.key y.key)
      (λ e. level x.key y.key ((Equal-is (ranked under x.key y.key)).0 e), λ e. (Equal-is (ranked under x.key y.key)).1 (ap (λ k. ranked under x.key k) (sym e) ∙ tied x.key))

-- entries with one key
pub one_key : {K V : Type 0} {alike : K → K → Bool} → ((x y : K) → Decides (alike x y) (x ≡ y)) → IsEquivalence (λ (x y : Entry K V). alike x.key y.key)
one_key {alike = alike} tells = on_equiv (λ e. e.key) (decided alike tells)
