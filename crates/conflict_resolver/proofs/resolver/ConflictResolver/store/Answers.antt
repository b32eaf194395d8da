use Rattle.conflict_resolver.proofs.Rows.{once_put, rows_put, within_put}
use Rattle.conflict_resolver.proofs.resolver.ConflictResolver.store.Goals as goal

pub invariant_of-self-clause-within : goal.invariant_of-self-clause-within
invariant_of-self-clause-within c = let r = c.args.self.now in within_put r.used r.most r.fits c.args.name.now c.args.counter _ _ c.requires c.insert.ensures.result c.insert.ensures.entries r.within

pub invariant_of-self-clause-once : goal.invariant_of-self-clause-once
invariant_of-self-clause-once c = let r = c.args.self.now in once_put r.used r.most r.fits c.args.name.now c.args.counter _ _ c.requires c.insert.ensures.result c.insert.ensures.entries r.once

pub returns-clause-entries : goal.returns-clause-entries
returns-clause-entries c = let r = c.args.self.now in rows_put r.used r.most r.fits c.args.name.now c.args.counter _ _ c.requires c.insert.ensures.result c.insert.ensures.entries
