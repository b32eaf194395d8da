use Rattle.std.proofs.Common.{◌≡◌, [], ◌∷◌, subst, arith, rules}
use Rattle.names.specs.Spelt.{spelt}
use Rattle.chunk_tables.specs.View.{module_of, symbol_of}
use Rattle.policies.specs.InnerNames.{symbol_names}
use Rattle.policies.specs.Sets.{Puts}
use Rattle.policies.proofs.Notes.{puts_one}
use Rattle.policies.proofs.inner_names.filling.note_symbol.Goals as goal

pub returns-clause-names : goal.returns-clause-names
returns-clause-names c =
    let own : spelt c.in_ok-name.name ∷ [] ≡ symbol_names (module_of c.args.module.now) (symbol_of c.args.symbol.now) = grind arith in
    subst (λ ns. Puts c.insert.result ns c.args.names.now c.insert.new.self) own
    (puts_one c.in_ok-name.name tt c.args.names.now c.insert.new.self c.insert.result c.insert.ensures.result c.insert.ensures.entries (search rules))
