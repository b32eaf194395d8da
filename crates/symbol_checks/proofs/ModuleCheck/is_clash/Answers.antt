use Rattle.std.proofs.Common.{rules}
use Rattle.chunk_tables.specs.View.{module_of, symbol_of}
use Rattle.symbol_checks.proofs.Earlier.{clashes_by_first}
use Rattle.symbol_checks.proofs.ModuleCheck.is_clash.Goals as goal

pub returns-then-symbol : goal.returns-then-symbol
returns-then-symbol c =
    clashes_by_first (module_of c.args.self.now.indexed.module.now) _ (symbol_of c.args.symbol.now) c.if-symbol.true c.deref.ensures.value c.get_binding.ensures c.is_some_and.ensures (λ j k. search rules)
