-- The name stands there by the test.
use Rattle.std.proofs.Common.{◌∙◌}
use Rattle.std.proofs.lemmas.List.{take_rest}
use Rattle.pac_check.proofs.CheckpointLemmas.{later_there, name_there}
use Rattle.pac_check.proofs.head.name_at.Goals as goal

pub returns-in-Some-strip_prefix : goal.returns-in-Some-strip_prefix
returns-in-Some-strip_prefix c = name_there c.args.bytes.now c.in-Some.rest.now c.args.at (c.in-Some.ensures.lookup.0.2 ∙ take_rest c.args.bytes.now c.args.at) c.in-Some-strip_prefix.ensures.cases.0

pub returns-in-Some-strip_prefix-2 : goal.returns-in-Some-strip_prefix-2
returns-in-Some-strip_prefix-2 c = later_there c.args.bytes.now c.in-Some.rest.now c.args.at (c.in-Some.ensures.lookup.0.2 ∙ take_rest c.args.bytes.now c.args.at) c.in-Some-strip_prefix-2.ensures.cases.0
