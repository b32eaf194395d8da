-- What a reader gives, seen without where it lies in memory. Assumes nothing.
use Rattle.std.specs.Prelude.{◌≡◌, ℕ, List, Result, Ok, Err, ⊤}
use Rattle.std.specs.Borrow.{Bor}
use Rattle.chunk_text.specs.declared.fault.Fault.{Fault}
use Rattle.chunk_text.specs.declared.fault.DocumentError.{DocumentError}
use Rattle.chunk_text.specs.declared.fault.DocumentError.TheVariants.{NoMemory, Faulty}
use Rattle.chunk_text.specs.declared.fault.ReadError.{ReadError}
use Rattle.chunk_text.specs.declared.fault.ReadError.TheVariants.{Memory, Line}

-- what f makes of what was read; a fault is passed on
infixl 10 ◌>>=◌
abbrev pub ◌>>=◌ : {A B E : Type 0} → Result A E → (A → Result B E) → Result B E
(Ok x) >>= f = f x
(Err e) >>= f = Err e

-- what was read, seen by view, and which fault there is
abbrev pub Reads : {X Y : Type 0} → (X → Y) → Result X Fault → Result Y Fault → Type 0
Reads view (Ok x) says = says ≡ Ok (view x)
Reads view (Err f) says = says ≡ Err f

-- how a line was not read
abbrev pub Fails : {Y : Type 0} → ReadError → Result Y Fault → Type 0
Fails Memory says = ⊤
Fails (Line f) says = says ≡ Err f

-- the same, unless there was no memory
abbrev pub Gives : {X Y : Type 0} → (X → Y) → Result X ReadError → Result Y Fault → Type 0
Gives view (Ok x) says = says ≡ Ok (view x)
Gives view (Err e) says = Fails e says

-- whatever a reader of a word may answer is what says gives of the word
abbrev pub Says : {T : Type 0} → (Bor (List ℕ) → Result T Fault → Type 0) → (List ℕ → Result T Fault) → Type 0
Says answers says = (w : Bor _) (r : Result _ Fault) → answers w r → r ≡ says w.now

-- how a document was not read: the number of the line that has a fault, from 0, and the fault
abbrev pub FailsAt : {Y : Type 0} → DocumentError → Result Y (ℕ × Fault) → Type 0
FailsAt NoMemory says = ⊤
FailsAt (Faulty k f) says = says ≡ Err (k, f)

-- what was read of a document
abbrev pub GivesAll : {X Y : Type 0} → (X → Y) → Result X DocumentError → Result Y (ℕ × Fault) → Type 0
GivesAll view (Ok x) says = says ≡ Ok (view x)
GivesAll view (Err e) says = FailsAt e says
