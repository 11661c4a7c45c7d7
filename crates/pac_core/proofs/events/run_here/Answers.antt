-- What it leaves is kept and written, and it is handed out and finished.
use Rattle.std.proofs.Common.{refl}
use Rattle.pac_sched.specs.declared.state.PieceState.TheVariants as state
use Rattle.pac_sched.specs.Schedules.{after_take}
use Rattle.pac_core.specs.Links.{job_of}
use Rattle.pac_core.proofs.HandIns.{ran_core, ran_is}
use Rattle.pac_core.proofs.LeftValues.{before_moved, finished_over, may_over, moved_before, no_room_core, no_room_is, open_over, stands_moved, values_moved}
use Rattle.pac_core.proofs.MayFinishes.{may_run, run_finished, run_order}
use Rattle.pac_core.proofs.TakeNext.{first_picked}
use Rattle.pac_core.proofs.PlacedTxns.{as_placed}
use Rattle.pac_core.proofs.events.run_here.Goals as goal

pub leave-requires-clause-kept : goal.leave-requires-clause-kept
leave-requires-clause-kept g c = record { job = job_of c.args.progress.now c.args.rows.now; keeps = c.requires.core.progress }

pub leave-requires-clause-place : goal.leave-requires-clause-place
leave-requires-clause-place g c = as_placed c.requires.place

pub outcome_of-requires-clause-place : goal.outcome_of-requires-clause-place
outcome_of-requires-clause-place g c = as_placed c.requires.place

pub hand_out-requires : goal.hand_out-requires
hand_out-requires g c = open_over c.args.progress.now c.leave.new.progress c.args.place c.args.piece state.Waiting c.requires.place c.in_ok-outcome.outcome.values c.in-Ok.ensures.left

pub finish-requires : goal.finish-requires
finish-requires g c =
    let p = c.args.progress.now in
    let q = c.leave.new.progress in
    let outs = c.in_ok-outcome.outcome.values in
    let has = c.in-Ok.ensures.left in
    let out = c.hand_out.new.self in
    let first = first_picked p c.args.place c.args.piece state.Waiting c.requires.place c.requires.first in
    let moved = before_moved p q c.args.place c.args.piece state.Waiting c.requires.place outs has after_take out c.hand_out.ensures.moved in
    may_over (moved_before p q c.args.place c.args.piece state.Waiting c.requires.place outs has after_take out c.hand_out.ensures.moved) out c.args.place c.args.piece has.now
    (values_moved p q c.args.place c.args.piece state.Waiting c.requires.place outs has after_take out c.hand_out.ensures.moved)
    (stands_moved p q c.args.place c.args.piece state.Waiting c.requires.place outs has after_take out c.hand_out.ensures.moved) refl
    (may_run (job_of p c.args.rows.now) p c.requires.core.progress c.args.place c.args.piece c.requires.place first _ moved)

pub returns-in-Ok-clause-keeps : goal.returns-in-Ok-clause-keeps
returns-in-Ok-clause-keeps g c =
    let p = c.args.progress.now in
    let q = c.leave.new.progress in
    let u = c.args.rows.now in
    let outcome = c.in_ok-outcome.outcome in
    let among = c.in_ok-outcome.ensures.result in
    let has = c.in-Ok.ensures.left in
    let out = c.hand_out.new.self in
    let first = first_picked p c.args.place c.args.piece state.Waiting c.requires.place c.requires.first in
    let before = moved_before p q c.args.place c.args.piece state.Waiting c.requires.place outcome.values has after_take out c.hand_out.ensures.moved in
    let moved = before_moved p q c.args.place c.args.piece state.Waiting c.requires.place outcome.values has after_take out c.hand_out.ensures.moved in
    let stands = stands_moved p q c.args.place c.args.piece state.Waiting c.requires.place outcome.values has after_take out c.hand_out.ensures.moved in
    let to = finished_over before out c.args.place c.args.piece has.now (values_moved p q c.args.place c.args.piece state.Waiting c.requires.place outcome.values has after_take out c.hand_out.ensures.moved) stands refl
    outcome.note c.finish.new.self (c.finish.ensures.finished has.now stands) in
    ran_core p u c.requires.core c.args.place c.args.piece c.requires.place c.requires.ready outcome.writes among.outs outcome.note among.result has.now (among.leaves has.now has.leaves) c.finish.new.self
    (run_finished (job_of p u) p c.requires.core.progress c.args.place c.args.piece c.requires.place first before moved has.now outcome.note c.finish.new.self to c.finish.ensures.order)
    (run_order (job_of p u) p c.requires.core.progress c.args.place c.args.piece c.requires.place first before moved has.now outcome.note c.finish.new.self to c.finish.ensures.order)
    c.leave.new.rows c.in-Ok.ensures.made

pub returns-in-Ok-clause-ok : goal.returns-in-Ok-clause-ok
returns-in-Ok-clause-ok g c =
    let p = c.args.progress.now in
    let q = c.leave.new.progress in
    let u = c.args.rows.now in
    let outcome = c.in_ok-outcome.outcome in
    let among = c.in_ok-outcome.ensures.result in
    let has = c.in-Ok.ensures.left in
    let out = c.hand_out.new.self in
    let first = first_picked p c.args.place c.args.piece state.Waiting c.requires.place c.requires.first in
    let before = moved_before p q c.args.place c.args.piece state.Waiting c.requires.place outcome.values has after_take out c.hand_out.ensures.moved in
    let moved = before_moved p q c.args.place c.args.piece state.Waiting c.requires.place outcome.values has after_take out c.hand_out.ensures.moved in
    let stands = stands_moved p q c.args.place c.args.piece state.Waiting c.requires.place outcome.values has after_take out c.hand_out.ensures.moved in
    let to = finished_over before out c.args.place c.args.piece has.now (values_moved p q c.args.place c.args.piece state.Waiting c.requires.place outcome.values has after_take out c.hand_out.ensures.moved) stands refl
    outcome.note c.finish.new.self (c.finish.ensures.finished has.now stands) in
    ran_is p u c.requires.core c.args.place c.args.piece c.requires.place c.requires.ready outcome.writes among.outs outcome.note among.result has.now (among.leaves has.now has.leaves) c.finish.new.self
    (run_finished (job_of p u) p c.requires.core.progress c.args.place c.args.piece c.requires.place first before moved has.now outcome.note c.finish.new.self to c.finish.ensures.order)
    (run_order (job_of p u) p c.requires.core.progress c.args.place c.args.piece c.requires.place first before moved has.now outcome.note c.finish.new.self to c.finish.ensures.order)
    c.leave.new.rows c.in-Ok.ensures.made

pub returns-in-Err-clause-keeps : goal.returns-in-Err-clause-keeps
returns-in-Err-clause-keeps g c = no_room_core c.args.progress.now c.leave.new.progress c.args.rows.now c.leave.new.rows c.requires.core c.args.place c.in-Err.ensures.kept c.in-Err.ensures.same

pub returns-in-Err-clause-err : goal.returns-in-Err-clause-err
returns-in-Err-clause-err g c = no_room_is c.args.progress.now c.leave.new.progress c.args.rows.now c.leave.new.rows c.requires.core c.args.place c.in-Err.ensures.kept c.in-Err.ensures.same
