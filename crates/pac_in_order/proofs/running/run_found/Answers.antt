-- The piece is finished, and the place stands behind it.
use Rattle.std.proofs.Common.{rules, ◌≡◌, ◌<◌, Fits, w16, ap, ◌∙◌, arith}
use Rattle.pac_plan.specs.declared.parts.PlanParts.{PlanParts}
use Rattle.pac_in_order.specs.Lines.{opening_tables}
use Rattle.pac_in_order.proofs.Runs.{ran, ran_keeps}
use Rattle.pac_in_order.proofs.running.run_found.Goals as goal

pub overflow_add-line : goal.overflow_add-line
overflow_add-line g c =
    let blocks : c.blocks-blocks.result ≡ c.args.line.now.plan.blocks = c.blocks-blocks.ensures ∙ ap (λ (p : PlanParts). p.blocks) (c.plan.ensures ∙ c.get.ensures) in
    let fits : Fits w16 c.blocks-blocks.result = search rules in
    let below : c.args.piece.block < c.args.line.now.plan.blocks = c.requires.at.below in
    omega (arith, blocks, fits, below)

pub returns-clause-keeps : goal.returns-clause-keeps
returns-clause-keeps g c =
    ran_keeps c.args.line.now (opening_tables g.R.Rows.held c.args.opening.now.items) c.args.place.now c.requires.keeps c.args.piece c.requires.at c.run_at.new.place c.in_ok-run_at.ensures.ok

pub returns-clause-ok : goal.returns-clause-ok
returns-clause-ok g c =
    ran c.args.line.now (opening_tables g.R.Rows.held c.args.opening.now.items) c.args.place.now c.requires.keeps c.args.piece c.requires.at
