use Rattle.std.proofs.Common.{◌≡◌, length}
use Rattle.pac_request.specs.declared.node.Verb.TheVariants as verb
use Rattle.pac_request.specs.LineSteps.{MoreRecords, verb_steps, line_run}
use Rattle.pac_request.proofs.parser.LineParser.records.Given as goal

-- to read on after what was read is to read the whole
abbrev pub invariant-loop-records : goal.invariant-loop-records
invariant-loop-records l = line_run l.fn.self.end (verb_steps verb.AdHoc) l.fn.self.rest.now ≡ line_run l.self.end (MoreRecords l.records.items) l.self.rest.now

abbrev pub decreases-loop-records : goal.decreases-loop-records
decreases-loop-records l = length l.self.rest.now
