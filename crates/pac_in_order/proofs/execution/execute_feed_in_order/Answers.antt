-- What is left is of the batches that the feed gave.
use Rattle.std.proofs.Common.{◌+◌, length, ap, subst, ◌∙◌}
use Rattle.pac_ops.specs.Shapes.{RowsFit}
use Rattle.pac_in_order.specs.Courses.{Course}
use Rattle.pac_in_order.proofs.Executing.{all_finished, fed_end, fed_init, fed_may, fed_on, given_more, given_none, types_fit}
use Rattle.pac_in_order.proofs.execution.execute_feed_in_order.Goals as goal

pub loop-batch-init : goal.loop-batch-init
loop-batch-init g c = fed_init g.F.Feed.so_far g.F.Feed.gives g.F.Feed.next_txn g.F.Feed.params g.F.Feed.tables (record { parts = c.args.plan; first = c.args.first; tables = g.R.Rows.held c.args.tables }) c.args.feed.now c.new-replay.result c.gives_none.ensures c.requires.next c.new-replay.ensures

pub loop-batch-preserved : goal.loop-batch-preserved
loop-batch-preserved g c =
    let fed = c.loop-batch.invariant in
    fed_on g.F.Feed.so_far g.F.Feed.gives g.F.Feed.next_txn g.F.Feed.params g.F.Feed.tables (record { parts = c.args.plan; first = c.args.first; tables = g.R.Rows.held c.args.tables }) c.args.feed.now c.loop-batch.feed c.next.new.self c.in-Some.batch c.loop-batch.replay c.loop-batch.counts.pieces c.loop-batch.counts.drained fed
    c.run_batch.new.replay c.run_batch.new.counts.pieces c.run_batch.new.counts.drained
    (given_more g.F.Feed.so_far g.F.Feed.gives g.F.Feed.next_txn g.F.Feed.params g.F.Feed.tables (record { parts = c.args.plan; first = c.args.first; tables = g.R.Rows.held c.args.tables }) c.args.feed.now c.loop-batch.feed c.next.new.self fed.batches c.in-Some.batch fed.given c.in-Some.ensures.adds c.in-Some.ensures.given)
    c.in_ok-run_batch.ensures.ran c.in_ok-run_batch.ensures.counts c.in-Some.ensures.first c.in-Some.ensures.next c.next.ensures.types.0 c.next.ensures.types.1

pub run_batch-requires-clause-finished : goal.run_batch-requires-clause-finished
run_batch-requires-clause-finished g c = all_finished (record { parts = c.args.plan; first = c.args.first; tables = g.R.Rows.held c.args.tables }) c.loop-batch.invariant.batches c.loop-batch.replay c.loop-batch.invariant.course_is

pub run_batch-requires-clause-may : goal.run_batch-requires-clause-may
run_batch-requires-clause-may g c =
    let fed = c.loop-batch.invariant in
    fed_may g.F.Feed.so_far g.F.Feed.gives g.F.Feed.next_txn g.F.Feed.params g.F.Feed.tables (record { parts = c.args.plan; first = c.args.first; tables = g.R.Rows.held c.args.tables }) c.args.feed.now c.loop-batch.feed c.next.new.self c.in-Some.batch c.loop-batch.replay c.loop-batch.counts.pieces c.loop-batch.counts.drained fed c.in-Some.ensures.first
    (types_fit c.args.plan (g.F.Feed.params c.loop-batch.feed) (g.F.Feed.tables c.loop-batch.feed) c.in-Some.batch.txns (fed.params_are ∙ c.requires.types.0) (fed.tables_are ∙ c.requires.types.1) c.in-Some.ensures.fits)

pub into_executed-requires : goal.into_executed-requires
into_executed-requires g c = all_finished (record { parts = c.args.plan; first = c.args.first; tables = g.R.Rows.held c.args.tables }) c.loop-batch.invariant.batches c.loop-batch.replay c.loop-batch.invariant.course_is

pub returns-clause-given : goal.returns-clause-given
returns-clause-given g c =
    let fed = c.loop-batch.invariant in
    (fed.batches, given_none g.F.Feed.so_far g.F.Feed.gives g.F.Feed.next_txn g.F.Feed.params g.F.Feed.tables (record { parts = c.args.plan; first = c.args.first; tables = g.R.Rows.held c.args.tables }) c.args.feed.now c.loop-batch.feed c.next.new.self fed.batches fed.given c.in_default.ensures.adds_none c.in_default.ensures.none)

pub returns-clause-tables : goal.returns-clause-tables
returns-clause-tables g c = c.into_executed.ensures.tables ∙ ap (λ (x : Course). length x.job.parts.tables) c.loop-batch.invariant.course_is

pub returns-clause-fit : goal.returns-clause-fit
returns-clause-fit g c = subst (λ (x : Course). RowsFit x.job.parts.tables (g.R.Rows.held c.into_executed.result.tables)) c.loop-batch.invariant.course_is c.into_executed.ensures.fit

pub returns-clause-executed : goal.returns-clause-executed
returns-clause-executed g c =
    let fed = c.loop-batch.invariant in
    fed_end g.F.Feed.so_far g.F.Feed.gives g.F.Feed.next_txn g.F.Feed.params g.F.Feed.tables (record { parts = c.args.plan; first = c.args.first; tables = g.R.Rows.held c.args.tables }) c.args.feed.now c.loop-batch.feed c.next.new.self c.loop-batch.replay c.loop-batch.counts.pieces c.loop-batch.counts.drained fed
    (given_none g.F.Feed.so_far g.F.Feed.gives g.F.Feed.next_txn g.F.Feed.params g.F.Feed.tables (record { parts = c.args.plan; first = c.args.first; tables = g.R.Rows.held c.args.tables }) c.args.feed.now c.loop-batch.feed c.next.new.self fed.batches fed.given c.in_default.ensures.adds_none c.in_default.ensures.none)
    (g.R.Rows.held c.into_executed.result.tables) c.into_executed.result.first_note (c.into_executed.result.pieces + c.into_executed.result.drained) c.into_executed.ensures.outcome c.into_executed.ensures.counts

pub returns-clause-same_types : goal.returns-clause-same_types
returns-clause-same_types g c = (c.next.ensures.types.0 ∙ c.loop-batch.invariant.params_are, c.next.ensures.types.1 ∙ c.loop-batch.invariant.tables_are)
