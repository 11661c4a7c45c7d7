-- What stands is what the finished pieces left.
use Rattle.std.proofs.Common.{◌≡◌, sym, subst, ◌∙◌}
use Rattle.pac_value.specs.State.{Tables}
use Rattle.pac_ops.specs.Shapes.{RowsFit}
use Rattle.pac_in_order.specs.Courses.{Course, IsCourseOutcome, course_pieces}
use Rattle.pac_in_order.specs.Lines.{opening_tables}
use Rattle.pac_in_order.proofs.Placed.{outcome, rows_fit}
use Rattle.pac_in_order.proofs.in_order.InOrder.into_parts.Goals as goal

pub returns-clause-outcome : goal.returns-clause-outcome
returns-clause-outcome g c = subst (λ (x : Course). x.finished ≡ course_pieces x → IsCourseOutcome x (g.R.Rows.held c.into_parts.result.0) c.into_parts.result.1) c.self.view_is
    (λ all.
    let opening : Tables = opening_tables g.R.Rows.held c.self.inside.opening.items in
    let o = outcome c.self.inside.line c.self.inside.place opening c.self.invariant all in
    record { tables_are = c.into_parts.ensures.rows ∙ o.tables_are; note_is = c.into_parts.ensures.note ∙ o.note_is })

pub returns-clause-fit : goal.returns-clause-fit
returns-clause-fit g c = subst (λ (x : Course). RowsFit x.job.parts.tables (g.R.Rows.held c.into_parts.result.0)) c.self.view_is
    (let opening : Tables = opening_tables g.R.Rows.held c.self.inside.opening.items in
    subst (λ (t : Tables). RowsFit c.self.inside.line.plan.tables t) (sym (c.into_parts.ensures.rows ∙ c.self.invariant.tables)) (rows_fit c.self.inside.line c.self.inside.place opening c.self.invariant))
