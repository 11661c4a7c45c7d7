-- What own work leaves that is handed in is kept and written, and its piece is finished.
use Rattle.std.proofs.Common.{◌≡◌, List, Option, sym, ap, subst, ◌∙◌}
use Rattle.pac_value.specs.Expressions.{Values}
use Rattle.pac_ops.specs.declared.note.Note.{Note}
use Rattle.pac_tables.specs.declared.writes.Write.{Write}
use Rattle.pac_tables.specs.Written.{AreWithin, written}
use Rattle.pac_piece.specs.declared.work.Work.{Work}
use Rattle.pac_sched.specs.declared.state.PieceState.TheVariants as state
use Rattle.pac_sched.specs.Schedules.{with_state}
use Rattle.pac_core.specs.Calls.{IsOwn}
use Rattle.pac_core.specs.Links.{core_of, job_of}
use Rattle.pac_core.specs.Moves.{IsFinishedAt, IsOrderAfter, MayFinish}
use Rattle.pac_core.specs.Places.{IsPieceAt}
use Rattle.pac_core.specs.Results.{HasLeft}
use Rattle.pac_core.proofs.HandIns.{handed_core, handed_is, handed_within}
use Rattle.pac_core.proofs.LeftValues.{finished_over, may_over, no_room_core, no_room_is, order_over}
use Rattle.pac_core.proofs.MayFinishes.{may_finish}
use Rattle.pac_core.proofs.PlacedTxns.{as_placed}
use Rattle.pac_core.proofs.events.hand_in.Goals as goal

abbrev Parts : Type 0
Parts = Work × List Write × Values × Option Note

pub leave-requires-clause-kept : goal.leave-requires-clause-kept
leave-requires-clause-kept g c = record { job = job_of c.args.progress.now c.args.rows.now; keeps = c.requires.progress }

pub leave-requires-clause-place : goal.leave-requires-clause-place
leave-requires-clause-place g c = as_placed (subst (λ (w : Work). IsPieceAt c.args.progress.now c.in-Some.place w.piece state.Out) (c.work.ensures ∙ sym c.work-2.ensures) c.in-Some.ensures.place)

pub leave-requires-clause-within : goal.leave-requires-clause-within
leave-requires-clause-within g c =
    let p = c.args.progress.now in
    let u = c.args.rows.now in
    let done = c.args.done in
    let at : IsPieceAt p c.in-Some.place done.work.piece state.Out = subst (λ (w : Work). IsPieceAt p c.in-Some.place w.piece state.Out) c.work.ensures c.in-Some.ensures.place in
    let own : IsOwn (core_of p u) done.work = subst (IsOwn (core_of p u)) c.work.ensures c.in-Some.ensures.own in
    subst (AreWithin u.tables) (ap (λ (x : Parts). x.1) (sym c.into_parts-work.ensures)) (handed_within p u c.requires c.in-Some.place done.work at own done.writes done.outs done.note c.is_value.ensures)

pub finish-requires : goal.finish-requires
finish-requires g c =
    let p = c.args.progress.now in
    let done = c.args.done in
    let at : IsPieceAt p c.in-Some.place done.work.piece state.Out = subst (λ (w : Work). IsPieceAt p c.in-Some.place w.piece state.Out) c.work.ensures c.in-Some.ensures.place in
    let has = c.in-Ok.ensures.left in
    subst (λ (w : Work). MayFinish c.leave.new.progress c.in-Some.place w.piece) (sym c.work-2.ensures)
    (may_over p c.leave.new.progress c.in-Some.place done.work.piece has.now has.values has.stands has.rest (may_finish (job_of p c.args.rows.now) p c.requires.progress c.in-Some.place done.work.piece at))

pub returns-in-Ok-clause-keeps : goal.returns-in-Ok-clause-keeps
returns-in-Ok-clause-keeps g c =
    let p = c.args.progress.now in
    let q = c.leave.new.progress in
    let u = c.args.rows.now in
    let done = c.args.done in
    let at : IsPieceAt p c.in-Some.place done.work.piece state.Out = subst (λ (w : Work). IsPieceAt p c.in-Some.place w.piece state.Out) c.work.ensures c.in-Some.ensures.place in
    let own : IsOwn (core_of p u) done.work = subst (IsOwn (core_of p u)) c.work.ensures c.in-Some.ensures.own in
    let has : HasLeft p c.in-Some.place done.work.piece done.outs q = subst (λ (w : Work). HasLeft p c.in-Some.place w.piece done.outs q) c.work-2.ensures
    (subst (λ (o : Values). HasLeft p c.in-Some.place c.work-2.result.now.piece o q) (ap (λ (x : Parts). x.2) c.into_parts-work.ensures) c.in-Ok.ensures.left) in
    let after : IsFinishedAt q c.in-Some.place done.work.piece has.now done.note c.finish.new.self = subst (λ (w : Work). IsFinishedAt q c.in-Some.place w.piece has.now done.note c.finish.new.self) c.work-2.ensures
    (subst (λ (n : Option Note). IsFinishedAt q c.in-Some.place c.work-2.result.now.piece has.now n c.finish.new.self) (ap (λ (x : Parts). x.3) c.into_parts-work.ensures) (c.finish.ensures.finished has.now has.stands)) in
    let to = finished_over p q c.in-Some.place done.work.piece has.now has.values has.stands has.rest done.note c.finish.new.self after in
    let order = order_over p q c.in-Some.place done.work.piece has.now has.values has.stands has.rest (λ sched. with_state sched done.work.piece state.Finished)
    (subst (λ (w : Work). IsOrderAfter (λ sched. with_state sched w.piece state.Finished) q c.in-Some.place.at) c.work-2.ensures c.finish.ensures.order) in
    let undo : c.leave.new.rows ≡ record u { current = written u.current done.writes } = c.in-Ok.ensures.made ∙ ap (λ (x : Parts). record u { current = written u.current x.1 }) c.into_parts-work.ensures in
    handed_core p u c.requires c.in-Some.place done.work at own done.writes done.outs done.note c.is_value.ensures has.now has.leaves c.finish.new.self to order c.leave.new.rows undo

pub returns-in-Ok-clause-answer : goal.returns-in-Ok-clause-answer
returns-in-Ok-clause-answer g c =
    let p = c.args.progress.now in
    let q = c.leave.new.progress in
    let u = c.args.rows.now in
    let done = c.args.done in
    let at : IsPieceAt p c.in-Some.place done.work.piece state.Out = subst (λ (w : Work). IsPieceAt p c.in-Some.place w.piece state.Out) c.work.ensures c.in-Some.ensures.place in
    let own : IsOwn (core_of p u) done.work = subst (IsOwn (core_of p u)) c.work.ensures c.in-Some.ensures.own in
    let has : HasLeft p c.in-Some.place done.work.piece done.outs q = subst (λ (w : Work). HasLeft p c.in-Some.place w.piece done.outs q) c.work-2.ensures
    (subst (λ (o : Values). HasLeft p c.in-Some.place c.work-2.result.now.piece o q) (ap (λ (x : Parts). x.2) c.into_parts-work.ensures) c.in-Ok.ensures.left) in
    let after : IsFinishedAt q c.in-Some.place done.work.piece has.now done.note c.finish.new.self = subst (λ (w : Work). IsFinishedAt q c.in-Some.place w.piece has.now done.note c.finish.new.self) c.work-2.ensures
    (subst (λ (n : Option Note). IsFinishedAt q c.in-Some.place c.work-2.result.now.piece has.now n c.finish.new.self) (ap (λ (x : Parts). x.3) c.into_parts-work.ensures) (c.finish.ensures.finished has.now has.stands)) in
    let to = finished_over p q c.in-Some.place done.work.piece has.now has.values has.stands has.rest done.note c.finish.new.self after in
    let order = order_over p q c.in-Some.place done.work.piece has.now has.values has.stands has.rest (λ sched. with_state sched done.work.piece state.Finished)
    (subst (λ (w : Work). IsOrderAfter (λ sched. with_state sched w.piece state.Finished) q c.in-Some.place.at) c.work-2.ensures c.finish.ensures.order) in
    let undo : c.leave.new.rows ≡ record u { current = written u.current done.writes } = c.in-Ok.ensures.made ∙ ap (λ (x : Parts). record u { current = written u.current x.1 }) c.into_parts-work.ensures in
    (own, handed_is p u c.requires c.in-Some.place done.work at own done.writes done.outs done.note c.is_value.ensures has.now has.leaves c.finish.new.self to order c.leave.new.rows undo)

pub returns-in-Err-clause-keeps : goal.returns-in-Err-clause-keeps
returns-in-Err-clause-keeps g c = no_room_core c.args.progress.now c.leave.new.progress c.args.rows.now c.leave.new.rows c.requires c.in-Some.place c.in-Err.ensures.kept c.in-Err.ensures.same

pub returns-in-Err-clause-answer : goal.returns-in-Err-clause-answer
returns-in-Err-clause-answer g c =
    let p = c.args.progress.now in
    let u = c.args.rows.now in
    let own : IsOwn (core_of p u) c.args.done.work = subst (IsOwn (core_of p u)) c.work.ensures c.in-Some.ensures.own in
    let parts = c.into_parts-work.ensures in
    let writes = c.in-Err.ensures.writes ∙ ap (λ (x : Parts). x.1) parts in (
      own,
      c.of_parts.ensures ∙ (λ k. record { work = (parts k).0; writes = writes k; outs = (parts k).2; note = (parts k).3 }),
      no_room_is p c.leave.new.progress u c.leave.new.rows c.requires c.in-Some.place c.in-Err.ensures.kept c.in-Err.ensures.same,
    )
