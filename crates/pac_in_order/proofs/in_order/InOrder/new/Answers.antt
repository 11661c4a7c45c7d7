-- Nothing is loaded.
use Rattle.std.proofs.Common.{◌≡◌, ◌∷◌, [], ◌++◌, None, false, refl, sym, ap, subst, ◌∙◌}
use Rattle.pac_value.specs.State.{Tables}
use Rattle.pac_plan.specs.Analysis.{IsPlan}
use Rattle.pac_ops.specs.Shapes.{RowsFit}
use Rattle.pac_piece.specs.InPlace.{Place}
use Rattle.pac_in_order.specs.Courses.{opening_course}
use Rattle.pac_in_order.specs.Lines.{opening_tables}
use Rattle.pac_in_order.proofs.Loading.{opens_is, opens_keeps}
use Rattle.pac_in_order.proofs.in_order.InOrder.new.Goals as goal

pub invariant_of-result : goal.invariant_of-result
invariant_of-result g c =
    let kept : opening_tables g.R.Rows.held c.with-opening.result.items ≡ g.R.Rows.held c.args.tables = ap (opening_tables g.R.Rows.held) (c.with-opening.ensures ∙ ap (λ l. l ++ c.args.tables ∷ []) c.new.ensures) in
    let is : IsPlan c.args.plan = subst IsPlan (c.plan.ensures ∙ c.get.ensures) c.is_plan.ensures in
    opens_keeps _ (opening_tables g.R.Rows.held c.with-opening.result.items) c.new-4.result c.new-2.ensures c.new-3.ensures.items refl refl refl is
    (subst (λ (t : Tables). RowsFit c.args.plan.tables t) (sym kept) c.requires.fit) refl
    (ap (λ (p : Place). p.count) c.new-4.ensures ∙ c.requires.tables)
    (ap (λ (p : Place). p.tables) c.new-4.ensures ∙ sym kept)
    (ap (λ (p : Place). p.note) c.new-4.ensures)

pub returns : goal.returns
returns g c =
    let kept : opening_tables g.R.Rows.held c.with-opening.result.items ≡ g.R.Rows.held c.args.tables = ap (opening_tables g.R.Rows.held) (c.with-opening.ensures ∙ ap (λ l. l ++ c.args.tables ∷ []) c.new.ensures) in
    opens_is (record { plan = c.args.plan; first = c.args.first; next = c.args.first; gone = c.new-2.result; batches = c.new-3.result; txn = 0; block = None; is_closed = false }) (opening_tables g.R.Rows.held c.with-opening.result.items) c.new-4.result c.new-2.ensures c.new-3.ensures.items refl refl refl
    ∙ ap (λ (t : Tables). opening_course (record { parts = c.args.plan; first = c.args.first; tables = t })) kept
