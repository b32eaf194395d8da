-- Which names are inner names. Assumes nothing.
use Rattle.std.specs.Prelude.{◌≡◌, ℕ, true, List, Some}
use Rattle.std.specs.List.{slice_get}
use Rattle.chunk_tables.specs.Model.{Symbol, Module, Chunk}
use Rattle.policies.specs.InnerNames.{is_inner_name, inner_name}

-- an inner symbol of a chunk module
pub record InnerSymbol (c : Chunk) : Type 0 where
  pub place : ℕ
  pub owner : ℕ
  pub home : Module
  pub number : ℕ
  pub symbol : Symbol
  pub member : slice_get c.members place ≡ Some owner
  pub known : slice_get c.modules owner ≡ Some home
  pub stands : slice_get home.symbols number ≡ Some symbol
  pub inner : is_inner_name home symbol ≡ true

-- the name of each inner symbol is an inner name
abbrev pub NamesOfInnerSymbols : Type 0
NamesOfInnerSymbols = (c : Chunk) (s : InnerSymbol c) → inner_name c s.symbol.name ≡ true

-- and each inner name is one's
abbrev pub NoOtherNames : Type 0
NoOtherNames = (c : Chunk) (n : List ℕ) → inner_name c n ≡ true → (s : InnerSymbol c) × (s.symbol.name ≡ n)
