use Rattle.std.proofs.Common.{◌≡◌, ◌≤◌, List, [], length}
use Rattle.pac_syntax.specs.declared.tree.ProcNode.{ProcNode}
use Rattle.pac_syntax.specs.Machine.{Steps, MoreProcs, run}
use Rattle.pac_syntax.proofs.parse.parser.Parser.procedures.Given as goal

-- to read on after what was read is to read the whole
abbrev pub invariant-loop-at : goal.invariant-loop-at
invariant-loop-at l = record {
  left : length l.self.rest.now ≤ length l.fn.self.rest.now;
  run : (k : List ProcNode → Steps) → run l.fn.self.end (MoreProcs 0 [] k) l.fn.self.rest.now ≡ run l.self.end (MoreProcs (length l.procs.items) l.procs.items k) l.self.rest.now;
}

abbrev pub decreases-loop-at : goal.decreases-loop-at
decreases-loop-at l = length l.self.rest.now
