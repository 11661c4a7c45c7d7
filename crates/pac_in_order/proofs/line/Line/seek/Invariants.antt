-- The course is the same, and is kept.
use Rattle.std.proofs.Common.{◌≡◌}
use Rattle.pac_in_order.specs.Lines.{KeepsLine, course_of, left_to_seek, opening_tables}
use Rattle.pac_in_order.proofs.line.Line.seek.Given as goal

abbrev pub invariant-loop-self : goal.invariant-loop-self
invariant-loop-self g l = record {
  keeps : KeepsLine l.self l.place (opening_tables g.R.Rows.held l.opening.items);
  same : course_of l.self (opening_tables g.R.Rows.held l.opening.items) ≡ course_of l.fn.self (opening_tables g.R.Rows.held l.opening.items);
}

abbrev pub decreases-loop-self : goal.decreases-loop-self
decreases-loop-self g l = left_to_seek l.self
