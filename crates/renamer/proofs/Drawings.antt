-- The helper of the other chunk at a place: by what is found and what is answered. Assumes nothing.
use Rattle.std.proofs.Common.{◌≡◌, ℕ, false, List, Some, None, refl, ap, ◌∙◌}
use Rattle.std.specs.List.{slice_get}
use Rattle.names.specs.Bases.{is_base}
use Rattle.chunk_tables.specs.Model.{Name, OtherChunk, Chunk}
use Rattle.conflict_resolver.proofs.Searches.{no_base}
use Rattle.hints.specs.Hints.{hint}
use Rattle.policies.specs.File.{file_vetoes}
use Rattle.session_rules.specs.Calls.{helper, told}
use Rattle.session_rules.specs.Helpers.{Helper, helper_of, noting, helper_at}
use Rattle.session_rules.specs.Rules.{already, declines, unchanged, found, to_nobody, Told, answers}
use Rattle.session_rules.specs.Session.{Session}

module _ (c : Chunk) (S : Session) (hs : List Helper) (k : ℕ) (o : OtherChunk) (there : slice_get c.others k ≡ Some o) where
  -- it has one
  pub has_helper : (n : Name) → helper_of hs o.number ≡ Some n → noting hs o.number (unchanged S (already n)) ≡ helper_at c S hs k
  has_helper n e = rw (there, e) refl

  -- it has none
  pub draws_helper : helper_of hs o.number ≡ None → (t : Told) → t ≡ told c S (helper (hint o.name)) → noting hs o.number t ≡ helper_at c S hs k
  draws_helper e t is = ap (noting hs o.number) is ∙ rw (there, e) refl

  -- its hint is no base
  pub no_hint : helper_of hs o.number ≡ None → (why : ℕ) → why ≡ 7 → is_base (hint o.name) ≡ false → noting hs o.number (answers (declines why) S) ≡ helper_at c S hs k
  no_hint e why w h = draws_helper e _ (ap (λ n. answers (declines n) S) w ∙ ap (found to_nobody S) (no_base (file_vetoes c) (hint o.name) c.records S.records h))
