use Rattle.std.proofs.Common.{rules, ◌≡◌, ℕ, List, [], ◌∷◌, length, Some, None, Option, refl, ap, ◌∙◌, arith}
use Rattle.std.proofs.lemmas.List.{length-map}
use Rattle.chunk_tables.specs.Lists.{maybe, first_found}
use Rattle.chunk_tables.specs.Model.{Module, Chunk}
use Rattle.chunk_tables.specs.View.{chunk_of, module_of}
use Rattle.chunk_faults.specs.ModuleRows.{no_module_tests, module_tests, module_rows}
use Rattle.chunk_faults.specs.Tests.{least, each_row}
use Rattle.row_checks.proofs.Told.{by_tests}
use Rattle.table_checks.proofs.modules.check_modules.Goals as goal

alone : (o : Option ℕ) → o ≡ maybe o None Some
alone None = refl
alone (Some n) = refl

-- the rows where there is no module, and where there is one
no_module : (t : Chunk) (Ms : List Module) → length Ms ≡ 0 → least (no_module_tests t) ≡ first_found least (module_rows t Ms)
no_module t [] e = alone (least (no_module_tests t))
no_module t (M ∷ Ms) e = absurd (omega arith)

some_module : (t : Chunk) (Ms : List Module) → (length Ms ≡ 0 → ⊥) → first_found least (each_row (module_tests t) Ms) ≡ first_found least (module_rows t Ms)
some_module t [] ne = absurd (ne refl)
some_module t (M ∷ Ms) ne = refl

pub returns-then-is_empty : goal.returns-then-is_empty
returns-then-is_empty c = c.refuse_if.ensures ∙ ap (λ b. least ((2, b) ∷ [])) c.runtime_strays.ensures ∙ no_module (chunk_of c.args.chunk.now) _ (search (rules, length-map))

pub returns : goal.returns
returns c =
    by_tests module_of _ _ c.deref.ensures.value _ c.check_rows.ensures (module_tests (chunk_of c.args.chunk.now)) (λ i x r l h. search rules)
    ∙ some_module (chunk_of c.args.chunk.now) _ (λ e. search (rules, length-map))
