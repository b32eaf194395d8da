-- One text written behind another. Assumes nothing.
use Rattle.std.proofs.Common.{◌≡◌, ℕ, ◌+◌, List, [], ◌++◌, Ok, Err, Result, length, sym, ap, ◌∙◌, arith, append_assoc, length-append}
use Rattle.std.specs.Global.{Vec}
use Rattle.std.specs.declared.alloc.AllocError.{AllocError}
use Rattle.std.proofs.lemmas.List.{append-nil}
use Rattle.answer_lines.specs.Writing.{Writes}

pub nothing : (a : Vec ℕ) → Writes a a (Ok tt) []
nothing a = record { items = sym (append-nil a.items); refused = tt; capacity = omega arith }

-- where the first runs out of memory, both do
pub ends : (a b : Vec ℕ) (e : AllocError) (x y : List ℕ) → Writes a b (Err e) x → Writes a b (Err e) (x ++ y)
ends a b e x y h =
    let (written, rest, whole, there) = h.items in
    record {
      items = (written, rest ++ y, ap (λ t. t ++ y) whole ∙ append_assoc written rest y, there);
      refused = omega (arith, length-append {A = ℕ} x y, h.refused);
      capacity = h.capacity;
    }

-- else the second goes on behind the first
pub goes_on : (a b c : Vec ℕ) (o : Result (Unit {0}) AllocError) (x y : List ℕ) → Writes a b (Ok tt) x → Writes b c o y → Writes a c o (x ++ y)
goes_on a b c (Ok u) x y h g = record {
  items = g.items ∙ ap (λ t. t ++ y) h.items ∙ append_assoc a.items x y;
  refused = tt;
  capacity = omega (arith, h.capacity, g.capacity);
}
goes_on a b c (Err e) x y h g =
    let (written, rest, whole, there) = g.items in
    let size : length b.items ≡ length a.items + length x = ap length h.items ∙ length-append {A = ℕ} a.items x in
    record {
      items = (x ++ written, rest, ap (λ t. x ++ t) whole ∙ sym (append_assoc x written rest), there ∙ ap (λ t. t ++ written) h.items ∙ append_assoc a.items x written);
      refused = omega (arith, length-append {A = ℕ} x y, g.refused, h.capacity, size);
      capacity = omega (arith, h.capacity, g.capacity);
    }
