-- Names of symbols of sound tables. Assumes nothing.
use Rattle.std.proofs.Common.{◌≡◌, ◌<◌, length, Some, None, Option, refl, arith}
use mathlib.Core.Logic.{∥∥₁_elim}
use Rattle.std.specs.List.{slice_get}
use Rattle.keys.specs.declared.refs.SymbolRef.{SymbolRef}
use Rattle.chunk_tables.specs.Links.{symbol_at}
use Rattle.chunk_tables.specs.Lists.{maybe}
use Rattle.chunk_tables.specs.Model.{Symbol, Module, Chunk}
use Rattle.chunk_faults.specs.Sound.{Sound}

-- a symbol of the chunk is a symbol of its module
pub of_module : (c : Chunk) (q : SymbolRef) (y : Symbol) → symbol_at c q ≡ Some y → (M : Module) × (slice_get c.modules q.owner ≡ Some M) × (slice_get M.symbols q.symbol ≡ Some y)
of_module c q y = on (slice_get c.modules q.owner) refl
  where
    on : (o : Option Module) → slice_get c.modules q.owner ≡ o → maybe o None (λ M. slice_get M.symbols q.symbol) ≡ Some y
        → (M : Module) × (slice_get c.modules q.owner ≡ Some M) × (slice_get M.symbols q.symbol ≡ Some y)
    on None e h = absurd cc
    on (Some M) e h = (M, e, h)

-- it has a name of at most 100 bytes
pub not_long : (c : Chunk) → ∥ Sound c ∥₁ → (q : SymbolRef) (y : Symbol) → symbol_at c q ≡ Some y → 105 < length y.name → ⊥
not_long c s q y h l = ∥∥₁_elim s (hlevel) (λ t. let m = of_module c q y h in let f = ((t.modules q.owner m.0 m.1).symbols q.symbol y m.2).name in omega (arith, f.1, l))
