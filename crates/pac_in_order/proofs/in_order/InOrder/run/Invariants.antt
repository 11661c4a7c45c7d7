-- So many pieces more are finished; and fewer are left each time.
use Rattle.std.proofs.Common.{◌-◌, length}
use Rattle.pac_in_order.specs.Courses.{RanOn, course_pieces}
use Rattle.pac_in_order.proofs.in_order.InOrder.run.Given as goal

abbrev pub invariant-loop-pieces : goal.invariant-loop-pieces
invariant-loop-pieces g l = RanOn l.fn.self l.pieces l.self

abbrev pub decreases-loop-pieces : goal.decreases-loop-pieces
decreases-loop-pieces g l = length (course_pieces l.self) - length l.self.finished
