use Rattle.chunk_tables.specs.View.{module_of}
use Rattle.binding_index.proofs.Found.{found_bound}
use Rattle.binding_index.proofs.indexed.lookups.IndexedModuleBindings.get_binding.Goals as goal

pub returns : goal.returns
returns c =
    let m = c.args.self.now in
    found_bound (module_of m.module.now) m.index c.in-Some.table c.args.scope c.in-Ok.name c.args.name.now c.in-Some.is m.indexed c.in-Ok.ensures c.find.result c.find.ensures
