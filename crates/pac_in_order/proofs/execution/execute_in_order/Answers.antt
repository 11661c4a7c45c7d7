-- What is left is of all batches.
use Rattle.std.proofs.Common.{◌≡◌, ◌^◌, ◌∷◌, List, [], length, refl, ap, subst, ◌∙◌}
use Rattle.pac_ops.specs.declared.batch.Batch.{Batch}
use Rattle.pac_ops.specs.Notes.{first_note}
use Rattle.pac_ops.specs.Shapes.{RowsFit}
use Rattle.pac_ops.specs.Transactions.{replayed}
use Rattle.pac_commute.specs.Loads.{Job, pieces_of}
use Rattle.pac_commute.specs.PlanLaws.{txns_of}
use Rattle.pac_in_order.specs.Courses.{Course}
use Rattle.pac_in_order.proofs.Executing.{RanSoFar, all_finished, divided_all, may_follow, numbers_fit, outcome_of, ran_on}
use Rattle.pac_in_order.proofs.execution.execute_in_order.Goals as goal

pub loop-batch-init : goal.loop-batch-init
loop-batch-init g c = record { batches = []; divided = c.in_ok-rest.ensures; course_is = c.new-replay.ensures; counted = refl }

pub loop-batch-preserved : goal.loop-batch-preserved
loop-batch-preserved g c =
    let job : Job = record { parts = c.args.plan; first = c.args.first; tables = g.R.Rows.held c.args.tables } in
    let so_far : RanSoFar job c.args.batches (c.in-Some.batch ∷ c.pop_front.new.self.items) c.loop-batch.replay c.loop-batch.counts.pieces c.loop-batch.counts.drained = subst (λ l. RanSoFar job c.args.batches l c.loop-batch.replay c.loop-batch.counts.pieces c.loop-batch.counts.drained) c.in-Some.ensures.items c.loop-batch.invariant in
    ran_on job c.args.batches c.in-Some.batch c.pop_front.new.self.items c.loop-batch.replay c.run_batch.new.replay c.loop-batch.counts.pieces c.loop-batch.counts.drained c.run_batch.new.counts.pieces c.run_batch.new.counts.drained
    so_far c.in_ok-run_batch.ensures.ran c.in_ok-run_batch.ensures.counts

pub run_batch-requires-clause-finished : goal.run_batch-requires-clause-finished
run_batch-requires-clause-finished g c = all_finished (record { parts = c.args.plan; first = c.args.first; tables = g.R.Rows.held c.args.tables }) c.loop-batch.invariant.batches c.loop-batch.replay c.loop-batch.invariant.course_is

pub run_batch-requires-clause-may : goal.run_batch-requires-clause-may
run_batch-requires-clause-may g c =
    let job : Job = record { parts = c.args.plan; first = c.args.first; tables = g.R.Rows.held c.args.tables } in
    may_follow job c.args.batches c.in-Some.batch c.pop_front.new.self.items c.loop-batch.replay c.loop-batch.counts.pieces c.loop-batch.counts.drained
    (subst (λ l. RanSoFar job c.args.batches l c.loop-batch.replay c.loop-batch.counts.pieces c.loop-batch.counts.drained) c.in-Some.ensures.items c.loop-batch.invariant) c.requires.runs c.requires.txns

pub run_batch-requires-clause-numbers : goal.run_batch-requires-clause-numbers
run_batch-requires-clause-numbers g c =
    let job : Job = record { parts = c.args.plan; first = c.args.first; tables = g.R.Rows.held c.args.tables } in
    numbers_fit job c.args.batches c.in-Some.batch c.pop_front.new.self.items c.loop-batch.replay c.loop-batch.counts.pieces c.loop-batch.counts.drained
    (subst (λ l. RanSoFar job c.args.batches l c.loop-batch.replay c.loop-batch.counts.pieces c.loop-batch.counts.drained) c.in-Some.ensures.items c.loop-batch.invariant) c.requires.runs (2 ^ 64) c.requires.numbers

pub into_executed-requires : goal.into_executed-requires
into_executed-requires g c = all_finished (record { parts = c.args.plan; first = c.args.first; tables = g.R.Rows.held c.args.tables }) c.loop-batch.invariant.batches c.loop-batch.replay c.loop-batch.invariant.course_is

pub returns-clause-tables : goal.returns-clause-tables
returns-clause-tables g c = c.into_executed.ensures.tables ∙ ap (λ (x : Course). length x.job.parts.tables) c.loop-batch.invariant.course_is

pub returns-clause-fit : goal.returns-clause-fit
returns-clause-fit g c = subst (λ (x : Course). RowsFit x.job.parts.tables (g.R.Rows.held c.into_executed.result.tables)) c.loop-batch.invariant.course_is c.into_executed.ensures.fit

pub returns-clause-held : goal.returns-clause-held
returns-clause-held g c =
    let all : c.loop-batch.invariant.batches ≡ c.args.batches = divided_all c.loop-batch.invariant.batches c.loop-batch.rest.items c.args.batches c.loop-batch.invariant.divided (c.in_default.ensures.items ∙ c.pop_front.ensures.rest) in
    (outcome_of (record { parts = c.args.plan; first = c.args.first; tables = g.R.Rows.held c.args.tables }) c.loop-batch.invariant.batches c.loop-batch.replay (g.R.Rows.held c.into_executed.result.tables) c.into_executed.result.first_note c.loop-batch.invariant.course_is c.into_executed.ensures.outcome).0
    ∙ ap (λ (bs : List Batch). (replayed c.args.plan.programs c.args.first (txns_of bs) (g.R.Rows.held c.args.tables)).tables) all

pub returns-clause-note : goal.returns-clause-note
returns-clause-note g c =
    let all : c.loop-batch.invariant.batches ≡ c.args.batches = divided_all c.loop-batch.invariant.batches c.loop-batch.rest.items c.args.batches c.loop-batch.invariant.divided (c.in_default.ensures.items ∙ c.pop_front.ensures.rest) in
    (outcome_of (record { parts = c.args.plan; first = c.args.first; tables = g.R.Rows.held c.args.tables }) c.loop-batch.invariant.batches c.loop-batch.replay (g.R.Rows.held c.into_executed.result.tables) c.into_executed.result.first_note c.loop-batch.invariant.course_is c.into_executed.ensures.outcome).1
    ∙ ap (λ (bs : List Batch). first_note (replayed c.args.plan.programs c.args.first (txns_of bs) (g.R.Rows.held c.args.tables)).notes) all

pub returns-clause-counted : goal.returns-clause-counted
returns-clause-counted g c =
    let all : c.loop-batch.invariant.batches ≡ c.args.batches = divided_all c.loop-batch.invariant.batches c.loop-batch.rest.items c.args.batches c.loop-batch.invariant.divided (c.in_default.ensures.items ∙ c.pop_front.ensures.rest) in
    c.into_executed.ensures.counts ∙ c.loop-batch.invariant.counted ∙ ap (λ (bs : List Batch). length (pieces_of (record { parts = c.args.plan; first = c.args.first; tables = g.R.Rows.held c.args.tables }) bs)) all
