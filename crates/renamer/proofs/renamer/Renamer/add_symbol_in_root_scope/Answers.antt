use Rattle.std.proofs.Common.{◌≡◌, is_some, None, sym, ap, subst, ◌∙◌}
use Rattle.std.specs.Option.{option_map}
use Rattle.std.proofs.lemmas.Bool.{false≢true}
use Rattle.names.specs.Spelt.{spelt}
use Rattle.chunk_tables.specs.Links.{symbol_at}
use Rattle.chunk_tables.specs.View.{chunk_of}
use Rattle.conflict_resolver.specs.Held.{held}
use Rattle.given_names.specs.Held.{given_in}
use Rattle.session_rules.specs.Laws.{Opened}
use Rattle.session_rules.specs.Session.{session, name_of}
use Rattle.renamer.specs.State.{chunk_in, session_of}
use Rattle.renamer.proofs.Endings.{root_there}
use Rattle.renamer.proofs.Staying.{over_given, still_of_chunk}
use Rattle.renamer.proofs.renamer.Renamer.add_symbol_in_root_scope.Goals as goal

-- there is a place for each symbol of the chunk
pub returns-in_err-give-clause-rules : goal.returns-in_err-give-clause-rules
returns-in_err-give-clause-rules c =
    let r = c.resolve_symbol.new.self in
    let q = c.in_ok-canonical.canonical in
    let there = root_there (chunk_in c.args.self.now) c.args.symbol (q, spelt c.in_ok-canonical.base) c.in_ok-canonical.ensures in
    absurd (false≢true (c.in_err-give.ensures.enough (chunk_in r) r.symbols (ap (λ k. is_some (symbol_at (chunk_of k.chunk) q)) c.resolve_symbol.ensures.keeps.stays.tables ∙ there) r.space))

pub invariant_of-self-clause-opened : goal.invariant_of-self-clause-opened
invariant_of-self-clause-opened c =
    let r = c.args.self.now in
    let s = c.resolve_symbol.new.self in
    let C = chunk_in r in
    let q = c.in_ok-canonical.canonical in
    let es = held s.resolver in
    let hs = given_in c.give.new.self in
    let unnamed : name_of (given_in r.canonical_names) q ≡ None = sym c.name_of-already.ensures ∙ ap (option_map spelt) c.in-None.is in
    let same = ap given_in c.resolve_symbol.ensures.names in
    let opened = over_given C (session_of r) r.opened c.args.symbol c.args.kind (q, spelt c.in_ok-canonical.base) c.in_ok-resolved.resolved es c.give.result (given_in s.canonical_names) hs c.in_ok-canonical.ensures unnamed c.in_ok-resolved.ensures.rules same (λ e x. ap given_in x.2) c.give.ensures.given in
    subst (λ k. ∥ Opened (chunk_of k.chunk) (session es hs) ∥₁) (sym c.resolve_symbol.ensures.keeps.stays.tables) opened

pub invariant_of-self-clause-symbols : goal.invariant_of-self-clause-symbols
invariant_of-self-clause-symbols c =
    let s = c.resolve_symbol.new.self in
    let q = c.in_ok-canonical.canonical in
    let there = root_there (chunk_in c.args.self.now) c.args.symbol (q, spelt c.in_ok-canonical.base) c.in_ok-canonical.ensures in
    still_of_chunk (chunk_in s) q (spelt c.in_ok-resolved.resolved.name) c.give.result (given_in s.canonical_names) (given_in c.give.new.self) (ap (λ k. is_some (symbol_at (chunk_of k.chunk) q)) c.resolve_symbol.ensures.keeps.stays.tables ∙ there) (λ e x. ap given_in x.2) c.give.ensures.given s.symbols
