use Rattle.std.proofs.Common.{◌∙◌, is_ok}
use Rattle.renamer.specs.State.{chunk_in, helper_entries}
use Rattle.renamer.proofs.Others.{no_entry, takes_helper, still_others, still_once, one_more}
use Rattle.renamer.proofs.renamer.Renamer.note_helper.Goals as goal

pub invariant_of-self-clause-others : goal.invariant_of-self-clause-others
invariant_of-self-clause-others c =
    let r = c.args.self.now in
    let none = no_entry (helper_entries r) c.args.chunk c.requires.none in
    still_others (chunk_in r) r.require_names c.args.chunk c.args.name r.others r.once c.requires.other none (is_ok c.insert.result) c.insert.new.self.entries c.insert.ensures.entries

pub invariant_of-self-clause-once : goal.invariant_of-self-clause-once
invariant_of-self-clause-once c =
    let r = c.args.self.now in
    let none = no_entry (helper_entries r) c.args.chunk c.requires.none in
    still_once (chunk_in r) r.require_names c.args.chunk c.args.name r.others r.once c.requires.other none (is_ok c.insert.result) c.insert.new.self.entries c.insert.ensures.entries

pub returns-clause-helpers : goal.returns-clause-helpers
returns-clause-helpers c =
    let r = c.args.self.now in
    let none = no_entry (helper_entries r) c.args.chunk c.requires.none in
    let taken = c.insert.ensures.result ∙ takes_helper (chunk_in r) r.require_names c.args.chunk c.args.name r.others r.once c.requires.other none r.room_for_others in
    one_more (chunk_in r) r.require_names c.args.chunk c.args.name r.others r.once c.requires.other none (is_ok c.insert.result) c.insert.new.self.entries c.insert.ensures.entries taken
