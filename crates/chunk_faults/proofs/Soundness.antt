-- What the tables have where nothing is refused. Assumes nothing.
use Rattle.std.proofs.Common.{◌≡◌, ℕ, suc, ◌+◌, ◌<◌, Bool, true, false, cond, not, ◌&&◌, ◌||◌, eqb, ltb, leb, List, [], ◌∷◌, map, length, take, is_some as option_is_some, Some, None, Option, sym, refl, ap, ◌∙◌, ⊎_elim, arith}
use Rattle.std.specs.List.{list_any, slice_get}
use Rattle.std.proofs.lemmas.Bool.{both_ways, not-false, not_from_false, ltb-false, leb-false, eqb-true, eqb-false, eq-eqb, or_parts, cases_Bool, cases_order}
use Rattle.keys.specs.declared.refs.SymbolRef.{SymbolRef}
use Rattle.chunk_tables.specs.declared.parts.Reference.{Reference}
use Rattle.chunk_tables.specs.Bindings.{nearest, root_import}
use Rattle.chunk_tables.specs.Formats.{of_code}
use Rattle.chunk_tables.specs.Kinds.{is_normal}
use Rattle.chunk_tables.specs.Limits.{scope_count, symbol_count, reference_count, too_large}
use Rattle.chunk_tables.specs.Lists.{maybe, first_found}
use Rattle.chunk_tables.specs.Links.{link_of, alias_of, canonical, end_after}
use Rattle.chunk_tables.specs.Model.{Symbol, Unresolved, Module, OtherChunk, Chunk}
use Rattle.chunk_tables.proofs.Chains.{canonical_linked, canonical_unlinked}
use Rattle.chunk_faults.specs.LimitRows.{limit_tests}
use Rattle.chunk_faults.specs.ListRows.{name_tests, module_entry, own_entry, symbol_entry, entry_tests, falls, member_tests, unresolved_tests, statement_tests, other_tests, own_lists, own_list_rows, run_lists, all_lists}
use Rattle.chunk_faults.specs.ModuleRows.{format_tests, namespace_of, runtime_strays, own_stray, no_module_tests, module_tests, module_rows}
use Rattle.chunk_faults.specs.Numbers.{is_module, missing}
use Rattle.chunk_faults.specs.ReferenceRows.{misses_target, stray_member, reference_tests}
use Rattle.chunk_faults.specs.ScopeRows.{scope_tests}
use Rattle.chunk_faults.specs.Sound.{There, SoundOwn, SoundScope, SoundSymbol, SoundReference, SoundUnresolved, SoundModule, SoundLimits, SoundMembers, SoundLists, Sound}
use Rattle.chunk_faults.specs.SymbolRows.{clashes, misplaced, endless, circles, doubly_aliased, elsewhere, stray_import, symbol_tests}
use Rattle.chunk_faults.specs.Tests.{Test, least}
use Rattle.chunk_faults.specs.Verdict.{scope_rows, symbol_rows, reference_rows, table_rows, verdict}
use Rattle.chunk_faults.proofs.Facts.{fails, row_passes, entry_passes, part_passes, is_some, is_none, at_some, below, there, leads, own_number, fit, any_nth, nth_take, nth_within, root_import_lem, bindings_apart}
use Rattle.chunk_faults.proofs.Firsts.{none_some, found_none}

-- a test under a condition
under : (a b : Bool) → (a && b) ≡ false → a ≡ true → b ≡ false
under a b e h = sym (ap (λ x. x && b) h) ∙ e

positive : (i : ℕ) → 0 < i → not (eqb i 0) ≡ true
positive i l = not_from_false (eqb i 0) (⊎_elim (λ t. let e = eqb-true i 0 t in absurd (omega arith)) (λ f. f) (cases_Bool (eqb i 0)))

sound_limits : (c : Chunk) → too_large c ≡ false → SoundLimits c
sound_limits c e =
    let a = or_parts _ _ e in
    let b = or_parts _ _ a.1 in
    let d = or_parts _ _ b.1 in
    let f = or_parts _ _ d.1 in
    let g = or_parts _ _ f.1 in
    record {
      modules = ltb-false 256 (length c.modules) a.0;
      scopes = ltb-false 16384 (scope_count c) b.0;
      symbols = ltb-false 16384 (symbol_count c) d.0;
      references = ltb-false 32768 (reference_count c) f.0;
      some_records = let ne = eqb-false c.records 0 g.0 in omega (arith, ne);
      records = ltb-false 4096 c.records g.1;
    }

sound_own : (M : Module) → own_stray M ≡ false → SoundOwn M
sound_own M e =
    let a = or_parts _ _ e in
    let b = or_parts _ _ a.1 in
    let d = or_parts _ _ b.1 in
    record {
      hot = λ i h. own_number M M.hot i a.0 h;
      this = λ i h. own_number M M.this i b.0 h;
      default = λ i h. own_number M M.default i d.0 h;
      namespace = λ i h. own_number M (namespace_of M.kind) i d.1 h;
    }

sound_scope : (M : Module) (i p : ℕ) → least (scope_tests M i p) ≡ None → SoundScope M i p
sound_scope M i p e =
    let a = fails (scope_tests M i p) e in
    let b = a.1 in
    let d = b.1 in
    record {
      smaller = λ l. leb-false i p (under (not (eqb i 0)) (leb i p) b.0 (positive i l));
      only_root = λ h. ⊎_elim (λ t. eqb-true i 0 t) (λ f. absurd (both_ways (not (is_normal M.kind)) (under (not (eqb i 0)) _ d.0 (not_from_false _ f)) (not_from_false _ h))) (cases_Bool (eqb i 0));
    }

module _ (c : Chunk) (ends : (q : SymbolRef) → link_of c (canonical c q) ≡ None) (M : Module) (unclashed : (i : ℕ) (y : Symbol) → slice_get M.symbols i ≡ Some y → clashes M i y ≡ false) where
  sound_symbol : (i : ℕ) (y : Symbol) → slice_get M.symbols i ≡ Some y → least (symbol_tests c M i y) ≡ None → SoundSymbol c M i y
  sound_symbol i y h e =
      let a = fails (symbol_tests c M i y) e in
      let b = a.1 in
      let d = b.1 in
      let f = d.1 in
      let s = or_parts _ _ a.0 in
      let t = or_parts _ _ s.1 in
      let m : misplaced M y ≡ false = (or_parts (clashes M i y) (misplaced M y) b.0).1 in
      let g = or_parts (doubly_aliased c y) (stray_import M i y) (or_parts (circles c y) _ d.0).1 in
      record {
        placed = below y.scope (length M.parents) s.0;
        link = λ q p. leads c y.link q t.0 p;
        alias = λ q p. leads c y.alias q t.1 p;
        apart = λ j x hx bx by es en. bindings_apart M unclashed j i x y hx h bx by es en;
        facade = λ n. eqb-true y.scope 0 (not-false _ (sym (ap (λ v. cond v (not (is_normal M.kind)) (not (eqb y.scope 0))) n) ∙ m));
        only_facades = λ n.
            ⊎_elim
            (λ v. absurd (both_ways (not (is_normal M.kind)) (sym (ap (λ u. cond u (not (is_normal M.kind)) (not (eqb y.scope 0))) v) ∙ m) (not_from_false _ n)))
            (λ v. v)
            (cases_Bool y.bound);
        alias_ends = λ q p.
            is_none (alias_of c (canonical c q))
            (under (not (endless c q)) _ (at_some y.alias (λ x. not (endless c x) && option_is_some (alias_of c (canonical c x))) q p g.0) (not_from_false (endless c q) (ap option_is_some (ends q))));
        imported = λ v w. root_import_lem M i y h (not-false (root_import M i) (under (elsewhere y) _ (under y.bound _ g.1 v) w));
        name = fit y.name f.0;
      }

sound_reference : (c : Chunk) (M : Module) (r : Reference) → least (reference_tests c M r) ≡ None → SoundReference c M r
sound_reference c M r e =
    let a = fails (reference_tests c M r) e in
    let b = a.1 in
    let s = or_parts _ _ a.0 in
    let t = or_parts _ _ s.1 in
    let n = nth_within M.symbols r.target (below r.target (length M.symbols) t.0) in
    let y = n.0 in
    let p = or_parts (misses_target M r y) (stray_member M r y) (at_some (slice_get M.symbols r.target) (λ x. misses_target M r x || stray_member M r x) y n.1 b.0) in
    let m = or_parts (not y.bound) (not (maybe (nearest M r.scope y.name) false (eqb r.target))) p.0 in
    record {
      scope = below r.scope (length M.parents) s.0;
      resolved = λ q h. leads c r.resolved q t.1 h;
      target = y;
      there = n.1;
      bound = not-false y.bound m.0;
      nearest = found (nearest M r.scope y.name) r.target (not-false _ m.1);
      member = λ q h.
          let u = or_parts (not (root_import M r.target)) (M.wrapped && not (elsewhere y)) (under (option_is_some r.resolved) _ p.1 (ap option_is_some h)) in
          (root_import_lem M r.target y n.1 (not-false _ u.0), λ w. not-false (elsewhere y) (under M.wrapped _ u.1 w));
    }
  where
    found : (o : Option ℕ) (i : ℕ) → maybe o false (eqb i) ≡ true → o ≡ Some i
    found None i e = absurd (both_ways false refl e)
    found (Some j) i e = ap Some (sym (eqb-true i j e))

sound_unresolved : (M : Module) (u : Unresolved) → least (unresolved_tests M u) ≡ None → SoundUnresolved M u
sound_unresolved M u e =
    let a = fails (unresolved_tests M u) e in
    record { scope = below u.scope (length M.parents) a.0; unbound = is_none _ a.1.0; name = fit u.name a.1.1.0 }

-- entry k of the chunk's modules is normal, new and not falling
module _ (c : Chunk) (e : (k m : ℕ) → slice_get c.members k ≡ Some m → least (member_tests c k m) ≡ None) where
  member_at : (k m : ℕ) → slice_get c.members k ≡ Some m → (M : Module) × (slice_get c.modules m ≡ Some M)
  member_at k m h = nth_within c.modules m (below m (length c.modules) (fails (member_tests c k m) (e k m h)).0)

  module _ (k m : ℕ) (h : slice_get c.members k ≡ Some m) (M : Module) (eM : slice_get c.modules m ≡ Some M) where
    not_amiss : (not (is_normal M.kind) ≡ false) × ((list_any (eqb m) (take k c.members) || falls c k M) ≡ false)
    not_amiss =
        or_parts (not (is_normal M.kind)) (list_any (eqb m) (take k c.members) || falls c k M)
        (at_some (slice_get c.modules m) (λ N. not (is_normal N.kind) || (list_any (eqb m) (take k c.members) || falls c k N)) M eM (fails (member_tests c k m) (e k m h)).1.0)

    new_and_rising : (list_any (eqb m) (take k c.members) ≡ false) × (falls c k M ≡ false)
    new_and_rising = or_parts (list_any (eqb m) (take k c.members)) (falls c k M) not_amiss.1

  repeated : (j k m : ℕ) → j < k → slice_get c.members j ≡ Some m → slice_get c.members k ≡ Some m → ⊥
  repeated j k m l hj hk =
      let n = member_at k m hk in
      both_ways (eqb m m) (any_nth (eqb m) (take k c.members) j m (new_and_rising k m hk n.0 n.1).0 (nth_take k c.members j l ∙ hj)) (eq-eqb m m refl)

  sound_members : SoundMembers c
  sound_members = record {
    normal = λ k m h. let n = member_at k m h in (n.0, n.1, not-false (is_normal n.0.kind) (not_amiss k m h n.0 n.1).0);
    different = λ j k m hj hk. ⊎_elim (λ q. q) (⊎_elim (λ l. absurd (repeated j k m l hj hk)) (λ l. absurd (repeated k j m l hk hj))) (cases_order j k);
    not_falling = λ k m n M N hm hn eM eN.
        let g : maybe (slice_get c.modules m) false (λ P. ltb N.order P.order) ≡ false = sym (ap (λ o. maybe o false (λ p. maybe (slice_get c.modules p) false (λ P. ltb N.order P.order))) hm) ∙ (new_and_rising (suc k) n hn N eN).1 in
        ltb-false N.order M.order (at_some (slice_get c.modules m) (λ P. ltb N.order P.order) M eM g);
  }

-- a symbol that is linked, with its row
record Linked (c : Chunk) (q l : SymbolRef) : Type 0 where
  M : Module
  y : Symbol
  at : slice_get c.modules q.owner ≡ Some M
  row : slice_get M.symbols q.symbol ≡ Some y
  is : y.link ≡ Some l

linked : (c : Chunk) (q l : SymbolRef) → link_of c q ≡ Some l → Linked c q l
linked c q l e = on (slice_get c.modules q.owner) refl e
  where
    in_module : (M : Module) → slice_get c.modules q.owner ≡ Some M → (o : Option Symbol) → slice_get M.symbols q.symbol ≡ o → maybe o None (λ y. y.link) ≡ Some l → Linked c q l
    in_module M h None p e = absurd (none_some e)
    in_module M h (Some y) p e = record { M = M; y = y; at = h; row = p; is = e }

    on : (o : Option Module) → slice_get c.modules q.owner ≡ o → maybe (maybe o None (λ M. slice_get M.symbols q.symbol)) None (λ y. y.link) ≡ Some l → Linked c q l
    on None h e = absurd (none_some e)
    on (Some M) h e = in_module M h (slice_get M.symbols q.symbol) refl e

module _ (c : Chunk) (short : Bool) (v : verdict c short ≡ None) where
  -- no record of a table is refused
  table : (k : ℕ) (rows : List (List Test)) → slice_get (table_rows c short) k ≡ Some rows → first_found least rows ≡ None
  table k rows h = found_none (first_found least) (table_rows c short) v k rows h

  scope_passes : (m : ℕ) (M : Module) → slice_get c.modules m ≡ Some M → (i p : ℕ) → slice_get M.parents i ≡ Some p → least (scope_tests M i p) ≡ None
  scope_passes m M h = row_passes (scope_tests M) M.parents (part_passes scope_rows c.modules (table 3 _ refl) m M h)

  symbol_passes : (m : ℕ) (M : Module) → slice_get c.modules m ≡ Some M → (i : ℕ) (y : Symbol) → slice_get M.symbols i ≡ Some y → least (symbol_tests c M i y) ≡ None
  symbol_passes m M h = row_passes (symbol_tests c M) M.symbols (part_passes (symbol_rows c) c.modules (table 4 _ refl) m M h)

  reference_passes : (m : ℕ) (M : Module) → slice_get c.modules m ≡ Some M → (k : ℕ) (r : Reference) → slice_get M.references k ≡ Some r → least (reference_tests c M r) ≡ None
  reference_passes m M h = entry_passes (reference_tests c M) M.references (part_passes (reference_rows c) c.modules (table 5 _ refl) m M h)

  -- no entry of a list is refused
  any_list : (k : ℕ) (rows : List (List Test)) → slice_get (all_lists c) k ≡ Some rows → first_found least rows ≡ None
  any_list k rows h = part_passes (λ l. l) (all_lists c) (table 6 _ refl) k rows h

  own_list : (m : ℕ) (M : Module) → slice_get c.modules m ≡ Some M → (k : ℕ) (rows : List (List Test)) → slice_get (own_lists c M) k ≡ Some rows → first_found least rows ≡ None
  own_list m M h k rows p = part_passes (λ l. l) (own_lists c M) (part_passes (own_list_rows c) c.modules (any_list 2 _ refl) m M h) k rows p

  run_list : (k : ℕ) (rows : List (List Test)) → slice_get (run_lists c) k ≡ Some rows → first_found least rows ≡ None
  run_list k rows h = part_passes (λ l. l) (run_lists c) (any_list 3 _ refl) k rows h

  -- the modules' own records
  module_parts : (Ms : List Module) → first_found least (module_rows c Ms) ≡ None → (runtime_strays c ≡ false) × ((m : ℕ) (M : Module) → slice_get Ms m ≡ Some M → own_stray M ≡ false)
  module_parts [] e = ((fails (no_module_tests c) (found_none least (module_rows c []) e 0 (no_module_tests c) refl)).0, λ m M h. absurd (none_some h))
  module_parts (N ∷ Ms) e =
      let row : (m : ℕ) (M : Module) → slice_get (N ∷ Ms) m ≡ Some M → least (module_tests c m M) ≡ None = row_passes (module_tests c) (N ∷ Ms) e in (
        (or_parts (eqb 0 0 && runtime_strays c) (own_stray N) (fails (module_tests c 0 N) (row 0 N refl)).0).0,
        λ m M h. (or_parts (eqb m 0 && runtime_strays c) (own_stray M) (fails (module_tests c m M) (row m M h)).0).1,
      )

  -- every chain of links ends
  ends : (q : SymbolRef) → link_of c (canonical c q) ≡ None
  ends q = on (link_of c q) refl
    where
      on : (o : Option SymbolRef) → link_of c q ≡ o → link_of c (canonical c q) ≡ None
      on None e = ap (link_of c) (canonical_unlinked c q e) ∙ e
      on (Some l) e =
          let s = linked c q l e in
          ap (link_of c) (canonical_linked c q l e)
          ∙ is_none (link_of c (end_after c l))
          (at_some s.y.link (λ x. option_is_some (link_of c (end_after c x))) l s.is (or_parts (circles c s.y) _ (fails (symbol_tests c s.M q.symbol s.y) (symbol_passes q.owner s.M s.at q.symbol s.y s.row)).1.1.0).0)

  sound_module : (m : ℕ) (M : Module) → slice_get c.modules m ≡ Some M → SoundModule c M
  sound_module m M h =
      let unclashed : (i : ℕ) (y : Symbol) → slice_get M.symbols i ≡ Some y → clashes M i y ≡ false = λ i y p. (or_parts (clashes M i y) (misplaced M y) (fails (symbol_tests c M i y) (symbol_passes m M h i y p)).1.0).0 in
      record {
        own = sound_own M ((module_parts c.modules (table 2 _ refl)).1 m M h);
        scopes = λ i p q. sound_scope M i p (scope_passes m M h i p q);
        symbols = λ i y p. sound_symbol c ends M unclashed i y p (symbol_passes m M h i y p);
        references = λ k r p. sound_reference c M r (reference_passes m M h k r p);
        shims = λ k i p. below i (length M.symbols) (fails (own_entry M i) (entry_passes (own_entry M) M.shims (own_list m M h 0 _ refl) k i p)).0;
        imports = λ k i p. below i (length M.symbols) (fails (own_entry M i) (entry_passes (own_entry M) M.imports (own_list m M h 1 _ refl) k i p)).0;
        unresolved = λ k u p. sound_unresolved M u (entry_passes (unresolved_tests M) M.unresolved (own_list m M h 2 _ refl) k u p);
        statements = λ k j s q p r. there c q (any_nth (missing c) s.declared j q (fails (statement_tests c s) (entry_passes (statement_tests c) M.statements (own_list m M h 3 _ refl) k s p)).0 r);
      }

  listed_module : (xs : List ℕ) → first_found least (map (module_entry c) xs) ≡ None → (k m : ℕ) → slice_get xs k ≡ Some m → m < length c.modules
  listed_module xs e k m h = below m (length c.modules) (fails (module_entry c m) (entry_passes (module_entry c) xs e k m h)).0

  listed_symbol : (xs : List SymbolRef) → first_found least (map (symbol_entry c) xs) ≡ None → (k : ℕ) (q : SymbolRef) → slice_get xs k ≡ Some q → There c q
  listed_symbol xs e k q h = there c q (fails (symbol_entry c q) (entry_passes (symbol_entry c) xs e k q h)).0

  sound_lists : SoundLists c
  sound_lists =
      let other : (k : ℕ) (o : OtherChunk) → slice_get c.others k ≡ Some o → least (other_tests c k o) ≡ None = row_passes (other_tests c) c.others (run_list 6 _ refl) in
      record {
        globals = λ k n h. fit n (fails (name_tests n) (entry_passes name_tests c.globals (any_list 0 _ refl) k n h)).0;
        direct = listed_module c.direct (run_list 0 _ refl);
        entry_level = listed_module c.entry_level (run_list 1 _ refl);
        indirect = listed_module c.indirect (run_list 2 _ refl);
        entry = λ k e h. there c e.symbol (fails (entry_tests c e) (entry_passes (entry_tests c) c.entry (run_list 3 _ refl) k e h)).0;
        used = listed_symbol c.used (run_list 4 _ refl);
        synthetic = listed_symbol c.synthetic (run_list 5 _ refl);
        others = λ k o h.
            let a = fails (other_tests c k o) (other k o h) in
            record {
              imports = λ j q p. there c q (any_nth (missing c) o.imports j q a.0 p);
              hint = not-false _ a.1.1.0;
            };
        rising = λ k o p ho hp.
            let a = fails (other_tests c (suc k) p) (other (suc k) p hp) in
            below o.number p.number (at_some (slice_get c.others k) (λ x. not (ltb x.number p.number)) o ho a.1.0);
      }

  within : (too_large c ≡ false) × (short ≡ false)
  within = or_parts (too_large c) short (fails (limit_tests c short) (found_none least (limit_tests c short ∷ []) (table 0 _ refl) 0 _ refl)).0

  sound : Sound c
  sound = record {
    limits = sound_limits c within.0;
    format = is_some (of_code c.format) (not-false _ (fails (format_tests c) (found_none least (format_tests c ∷ []) (table 1 _ refl) 0 _ refl)).0);
    runtime = λ m h. below m (length c.modules) (at_some c.runtime (λ k. not (is_module c k)) m h (module_parts c.modules (table 2 _ refl)).0);
    ends = ends;
    modules = sound_module;
    members = sound_members c (row_passes (member_tests c) c.members (any_list 1 _ refl));
    lists = sound_lists;
  }

  pub passes : Sound c × (short ≡ false)
  passes = (sound, within.1)
