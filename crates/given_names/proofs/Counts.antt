-- Entries with different keys that are symbols of a chunk. Assumes nothing.
use Rattle.std.proofs.Common.{◌≡◌, ◌≤◌, true, List, length, get_or, is_some, arith}
use Rattle.std.specs.List.{All}
use Rattle.keys.specs.declared.refs.SymbolRef.{SymbolRef}
use Rattle.keyed_table.specs.Model.{Distinct}
use Rattle.keyed_table.specs.declared.slot.Entry.{Entry}
use Rattle.chunk_tables.specs.Model.{Module, Chunk}
use Rattle.chunk_tables.specs.Limits.{symbol_count}
use Rattle.given_names.specs.Laws.{NamesSymbols}
use Rattle.given_names.proofs.Bounded.{at_most}
use Rattle.given_names.proofs.Numbered.{in_modules, symbol_in, number_in, number_below, number_tells}

same_ref : (q r : SymbolRef) → (q.owner ≡ r.owner) × (q.symbol ≡ r.symbol) → q ≡ r
same_ref q r e = λ i. record { owner = e.0 i; symbol = e.1 i }

module _ {V : Type 0} where
  -- of modules, since a tactic does not find a chunk behind its modules
  pub at_most_in_modules : (Ms : List Module) (es : List (Entry SymbolRef V)) → Distinct es → All (λ e. is_some (symbol_in Ms e.key.owner e.key.symbol) ≡ true) es → length es ≤ in_modules Ms
  at_most_in_modules Ms es distinct named =
      at_most (λ (e : Entry SymbolRef V). number_in Ms e.key.owner e.key.symbol) es (in_modules Ms)
      (λ k d l. number_below Ms _ _ (named k d l))
      (λ i j d h l e. distinct (record {
        i = i;
        j = j;
        d = d;
        less = h;
        within = l;
        key = same_ref (get_or es i d).key (get_or es j d).key (number_tells Ms _ _ _ _ (named i d (omega arith)) (named j d l) e);
      }))

  pub at_most_symbols : (c : Chunk) (es : List (Entry SymbolRef V)) → Distinct es → NamesSymbols c es → length es ≤ symbol_count c
  at_most_symbols c = at_most_in_modules c.modules
