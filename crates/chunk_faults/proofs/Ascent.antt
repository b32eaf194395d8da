-- The tests of every record stand by ascending numbers. Assumes nothing.
use Rattle.std.proofs.Common.{ℕ, suc, Bool, List, [], ◌∷◌, map, lit<}
use Rattle.std.specs.List.{flat_map, AllByRecursion as All}
use Rattle.std.proofs.ByRecursion.{All-append}
use Rattle.chunk_tables.specs.Model.{Module, Chunk}
use Rattle.chunk_faults.specs.ListRows.{name_tests, module_entry, own_entry, symbol_entry, entry_tests, member_tests, unresolved_tests, statement_tests, other_tests, own_lists, own_list_rows, run_lists, all_lists, list_rows}
use Rattle.chunk_faults.specs.ModuleRows.{module_tests, module_rows}
use Rattle.chunk_faults.specs.ReferenceRows.{reference_tests}
use Rattle.chunk_faults.specs.ScopeRows.{scope_tests}
use Rattle.chunk_faults.specs.SymbolRows.{symbol_tests}
use Rattle.chunk_faults.specs.Tests.{each_from}
use Rattle.chunk_faults.specs.Verdict.{scope_rows, symbol_rows, reference_rows, table_rows}
use Rattle.chunk_faults.proofs.Judgement.{Ascending}

module _ {A B : Type 0} (P : B → Type 0) where
  all_each : (f : ℕ → A → B) → ((i : ℕ) (x : A) → P (f i x)) → (k : ℕ) (xs : List A) → All P (each_from k f xs)
  all_each f h k [] = tt
  all_each f h k (x ∷ xs) = (h k x, all_each f h (suc k) xs)

  all_map : (f : A → B) → ((x : A) → P (f x)) → (xs : List A) → All P (map f xs)
  all_map f h [] = tt
  all_map f h (x ∷ xs) = (h x, all_map f h xs)

  all_joined : (f : A → List B) → ((x : A) → All P (f x)) → (xs : List A) → All P (flat_map f xs)
  all_joined f h [] = tt
  all_joined f h (x ∷ xs) = All-append P (f x) (flat_map f xs) (h x) (all_joined f h xs)

-- rows of several lists
all_lists_lem : {B : Type 0} (P : B → Type 0) (ls : List (List B)) → All (All P) ls → All P (flat_map (λ rows. rows) ls)
all_lists_lem P [] h = tt
all_lists_lem P (l ∷ ls) h = All-append P l (flat_map (λ rows. rows) ls) h.0 (all_lists_lem P ls h.1)

module _ (c : Chunk) where
  modules : (Ms : List Module) → All Ascending (module_rows c Ms)
  modules [] = ((tt, tt), tt)
  modules (M ∷ Ms) = all_each Ascending (module_tests c) (λ i x. (tt, tt)) 0 (M ∷ Ms)

  own : (M : Module) → All Ascending (own_list_rows c M)
  own M =
      all_lists_lem Ascending (own_lists c M) (
        all_map Ascending (own_entry M) (λ x. (tt, tt)) M.shims,
        (
          all_map Ascending (own_entry M) (λ x. (tt, tt)) M.imports,
          (
            all_map Ascending (unresolved_tests M) (λ x. ((lit< tt, (lit< tt, tt)), ((lit< tt, tt), (tt, tt)))) M.unresolved,
            (all_map Ascending (statement_tests c) (λ x. (tt, tt)) M.statements, tt),
          ),
        ),
      )

  run : All Ascending (flat_map (λ rows. rows) (run_lists c))
  run =
      all_lists_lem Ascending (run_lists c) (
        all_map Ascending (module_entry c) (λ x. (tt, tt)) c.direct,
        (
          all_map Ascending (module_entry c) (λ x. (tt, tt)) c.entry_level,
          (
            all_map Ascending (module_entry c) (λ x. (tt, tt)) c.indirect,
            (
              all_map Ascending (entry_tests c) (λ x. (tt, tt)) c.entry,
              (
                all_map Ascending (symbol_entry c) (λ x. (tt, tt)) c.used,
                (
                  all_map Ascending (symbol_entry c) (λ x. (tt, tt)) c.synthetic,
                  (all_each Ascending (other_tests c) (λ i x. ((lit< tt, (lit< tt, tt)), ((lit< tt, tt), (tt, tt)))) 0 c.others, tt),
                ),
              ),
            ),
          ),
        ),
      )

  lists : All Ascending (list_rows c)
  lists =
      all_lists_lem Ascending (all_lists c) (
        all_map Ascending name_tests (λ x. (tt, tt)) c.globals,
        (
          all_each Ascending (member_tests c) (λ i x. ((lit< tt, tt), (tt, tt))) 0 c.members,
          (
            all_joined Ascending (own_list_rows c) own c.modules,
            (run, tt),
          ),
        ),
      )

  symbol_rows_lem : (M : Module) → All Ascending (symbol_rows c M)
  symbol_rows_lem M =
      all_each Ascending (symbol_tests c M)
      (λ i y. ((lit< tt, (lit< tt, (lit< tt, tt))), ((lit< tt, (lit< tt, tt)), ((lit< tt, tt), (tt, tt))))) 0 M.symbols

  pub ascent : (short : Bool) → All (All Ascending) (table_rows c short)
  ascent short = (
    ((tt, tt), tt),
    (
      ((tt, tt), tt),
      (
        modules c.modules,
        (
          all_joined Ascending scope_rows (λ M. all_each Ascending (scope_tests M) (λ i p. ((lit< tt, (lit< tt, tt)), ((lit< tt, tt), (tt, tt)))) 0 M.parents) c.modules,
          (
            all_joined Ascending (symbol_rows c) symbol_rows_lem c.modules,
            (
              all_joined Ascending (reference_rows c) (λ M. all_map Ascending (reference_tests c M) (λ r. ((lit< tt, tt), (tt, tt))) M.references) c.modules,
              (lists, tt),
            ),
          ),
        ),
      ),
    ),
  )
