-- Records that come after others: nothing is lost. Assumes nothing.
use Rattle.std.proofs.Common.{◌≡◌, ℕ, ◌≤◌, Bool, true, List, is_some, Some, None, Option, sym, refl, ap, ◌∙◌, arith}
use Rattle.conflict_resolver.specs.Laws.{Grown, Granted, Kept, Limited}
use Rattle.conflict_resolver.specs.Records.{Record, counter_of, recording, Apart}
use Rattle.conflict_resolver.proofs.Lookups.{recorded_same, recorded_other, apart_recorded, limited_recorded}

-- a name on record stays there, and its counter does not fall
pub record Later (es fs : List Record) : Type 0 where
  pub held : (d : List ℕ) (k : ℕ) → counter_of es d ≡ Some k → (m : ℕ) × (k ≤ m) × (counter_of fs d ≡ Some m)
  pub once : Apart es → Apart fs
  pub limited : Limited es → Limited fs

pub later_same : (es : List Record) → Later es es
later_same es = record { held = λ d k e. (k, omega arith, e); once = λ a. a; limited = λ l. l }

pub later_trans : (es fs gs : List Record) → Later es fs → Later fs gs → Later es gs
later_trans es fs gs h g = record {
  held = λ d k e.
      let (m, l, f) = h.held d k e in
      let (n, j, i) = g.held d m f in
      (n, omega arith, i);
  once = λ a. g.once (h.once a);
  limited = λ l. g.limited (h.limited l);
}

-- what is on record stays on record
pub still : (es fs : List Record) (d : List ℕ) → Later es fs → is_some (counter_of es d) ≡ true → is_some (counter_of fs d) ≡ true
still es fs d h e = on (counter_of es d) (h.held d) e
  where
    on : (o : Option ℕ) → ((k : ℕ) → o ≡ Some k → (m : ℕ) × (k ≤ m) × (counter_of fs d ≡ Some m)) → is_some o ≡ true → is_some (counter_of fs d) ≡ true
    on (Some k) g e = let (m, l, f) = g k refl in ap is_some f
    on None g e = cc

grown_held : (o p : Option ℕ) (k : ℕ) → Grown o p → o ≡ Some k → (m : ℕ) × (k ≤ m) × (p ≡ Some m)
grown_held (Some j) (Some m) k h e = let f : j ≡ k = cc in (m, omega arith, refl)
grown_held (Some j) None k h e = absurd h
grown_held None p k h e = let z : ◌≡◌ {A = ℕ} 0 1 = cc in absurd (omega arith)

-- a name that is not on record is another than one that is
pub unlike : (es : List Record) (c d : List ℕ) → counter_of es c ≡ None → is_some (counter_of es d) ≡ true → d ≡ c → ⊥
unlike es c d e h f =
    let n : Option ℕ = None in
    let g : is_some n ≡ true = sym (ap is_some e) ∙ sym (ap (λ x. is_some (counter_of es x)) f) ∙ h in
    let z : ◌≡◌ {A = ℕ} 0 1 = cc in
    absurd (omega arith)

pub later_kept : (es fs : List Record) → Kept es fs → Later es fs
later_kept es fs h = record {
  held = λ d k e. grown_held (counter_of es d) (counter_of fs d) k (h.grown d) e;
  once = h.apart;
  limited = h.limited;
}

pub later_granted : (vetoes : List ℕ → Bool → Bool) (b : List ℕ) (es fs : List Record) (c : List ℕ) (p : ℕ) → Granted vetoes b es fs c p → Later es fs
later_granted vetoes b es fs c p h = record {
  held = λ d k e. grown_held (counter_of es d) (counter_of fs d) k (h.others d (unlike es c d h.unrecorded (ap is_some e))) e;
  once = h.apart;
  limited = h.limited;
}

later_recording : (es : List Record) (c : List ℕ) → counter_of es c ≡ None → Later es (recording es c)
later_recording es c e = record {
  held = λ d k f. (k, omega arith, recorded_other es c d (unlike es c d e (ap is_some f)) ∙ f);
  once = apart_recorded es c e;
  limited = limited_recorded es c e;
}

-- the records fs after c was reserved: it is there, and no other name has come
pub record Reserved (es : List Record) (c : List ℕ) (fs : List Record) : Type 0 where
  pub later : Later es fs
  pub there : is_some (counter_of fs c) ≡ true
  pub others : (d : List ℕ) → (d ≡ c → ⊥) → counter_of fs d ≡ counter_of es d

pub reserved_recorded : (es : List Record) (c : List ℕ) → is_some (counter_of es c) ≡ true → Reserved es c es
reserved_recorded es c h = record { later = later_same es; there = h; others = λ d ne. refl }

pub reserved_new : (es : List Record) (c : List ℕ) → counter_of es c ≡ None → Reserved es c (recording es c)
reserved_new es c e = record { later = later_recording es c e; there = ap is_some (recorded_same es c e); others = recorded_other es c }
