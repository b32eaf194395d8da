-- What a check tells that goes over rows from the first on. Assumes nothing.
use Rattle.std.specs.Prelude.{◌≡◌, ℕ, ◌<◌, ◌^◌, List, Option, Result, ⊤}
use Rattle.std.specs.Borrow.{Bor}
use Rattle.chunk_tables.specs.Lists.{first_found}
use Rattle.names.specs.declared.refusal.Refusal.{Refusal}
use Rattle.chunk_faults.specs.Tests.{told, each_row}

-- says gives, of a row and its number, what each answer of the check tells
abbrev pub Tells : {T : Type 0} → (ℕ → Bor T → Result ⊤ Refusal → Type 0) → (ℕ → T → Option ℕ) → Type 0
Tells answers says = (i : ℕ) (x : Bor _) (r : Result ⊤ Refusal) → i < 2 ^ 64 → answers i x r → told r ≡ says i x.now

-- what is told of a table: that of its first faulty row
abbrev pub first_told : {T : Type 0} → (ℕ → T → Option ℕ) → List T → Option ℕ
first_told says xs = first_found (λ o. o) (each_row says xs)
