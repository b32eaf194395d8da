-- Chains of links. Assumes nothing.
use Rattle.std.proofs.Common.{◌≡◌, ℕ, zero, suc, ◌+◌, ◌-◌, ◌<◌, Some, None, refl, ap, ◌∙◌, arith}
use Rattle.keys.specs.declared.refs.SymbolRef.{SymbolRef}
use Rattle.chunk_tables.specs.Lists.{maybe}
use Rattle.chunk_tables.specs.Links.{link_of, follow, canonical, end_after}
use Rattle.chunk_tables.specs.Model.{Chunk}

module _ (c : Chunk) where
  -- a symbol without a link ends its chain
  pub follow_end : (n : ℕ) (q : SymbolRef) → link_of c q ≡ None → follow c n q ≡ q
  follow_end zero q e = refl
  follow_end (suc n) q e = ap (λ o. maybe o q (follow c n)) e

  pub follow_suc : (n : ℕ) (q l : SymbolRef) → link_of c q ≡ Some l → follow c (suc n) q ≡ follow c n l
  follow_suc n q l e = ap (λ o. maybe o q (follow c n)) e

  -- one link onward, with i of n links behind
  pub follow_on : (n i : ℕ) (q l : SymbolRef) → link_of c q ≡ Some l → i < n → follow c (n - i) q ≡ follow c (n - (i + 1)) l
  follow_on n i q l e h =
      let m : n - i ≡ suc (n - (i + 1)) = omega arith in
      ap (λ k. follow c k q) m ∙ follow_suc (n - (i + 1)) q l e

  -- the canonical symbol of one that is linked, and of one that is not
  pub canonical_linked : (q l : SymbolRef) → link_of c q ≡ Some l → canonical c q ≡ end_after c l
  unfolding canonical end_after
  canonical_linked q l e = follow_suc 16383 q l e

  pub canonical_unlinked : (q : SymbolRef) → link_of c q ≡ None → canonical c q ≡ q
  unfolding canonical
  canonical_unlinked q e = follow_end 16384 q e
