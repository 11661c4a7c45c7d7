-- One list has one block more, or the edge leads to none of the blocks.
use Rattle.pac_sets.proofs.SourceLemmas.{source_added, source_outside}
use Rattle.std.proofs.Common.{rules, ◌<◌, ◌≤◌, length}
use Rattle.pac_sets.proofs.sets.add_source.Goals as goal

pub returns-in_ok-push : goal.returns-in_ok-push
returns-in_ok-push c =
    let old = c.args.sources.now.items in
    let within : c.from-to.result < length old = search rules in
    source_added c.args.edge old c.from-to.result c.index_mut.result.now c.push.new.self c.from-to.ensures within c.index_mut.ensures.value c.in_ok-push.ensures.items

pub returns-else-to-len : goal.returns-else-to-len
returns-else-to-len c =
    let old = c.args.sources.now.items in
    let past : length old ≤ c.from-to.result = search rules in
    source_outside c.args.edge old c.from-to.result c.from-to.ensures past
