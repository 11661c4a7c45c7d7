-- By what the type keeps.
use Rattle.std.proofs.Common.{subst}
use Rattle.pac_in_order.specs.Courses.{IsSoundCourse}
use Rattle.pac_in_order.specs.Lines.{opening_tables}
use Rattle.pac_in_order.proofs.Placed.{sound}
use Rattle.pac_in_order.proofs.in_order.InOrder.keeps_invariant.Goals as goal

pub returns : goal.returns
returns g c = subst IsSoundCourse c.self.view_is (sound c.self.inside.line c.self.inside.place (opening_tables g.R.Rows.held c.self.inside.opening.items) c.self.invariant)
