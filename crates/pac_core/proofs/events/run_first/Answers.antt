-- What it leaves is kept and written, and it is finished.
use Rattle.pac_core.specs.Links.{job_of}
use Rattle.pac_core.proofs.FirstMoves.{first_core, first_is, may_first}
use Rattle.pac_core.proofs.LeftValues.{first_may_over, first_over, no_room_core, no_room_is}
use Rattle.pac_core.proofs.events.run_first.Goals as goal

pub finish_first-requires : goal.finish_first-requires
finish_first-requires g c =
    let p = c.args.progress.now in
    let has = c.in-Ok.ensures.left in
    first_may_over p c.leave.new.progress c.args.place c.args.first has.now has.values has.stands has.rest (may_first (job_of p c.args.rows.now) p c.requires.core.progress c.args.place c.args.first c.requires.left)

pub returns-in-Ok-clause-keeps : goal.returns-in-Ok-clause-keeps
returns-in-Ok-clause-keeps g c =
    let p = c.args.progress.now in
    let q = c.leave.new.progress in
    let outcome = c.in_ok-outcome.outcome in
    let among = c.in_ok-outcome.ensures.result in
    let has = c.in-Ok.ensures.left in
    first_core p c.args.rows.now c.requires.core c.args.place c.args.first c.requires.left outcome.writes among.outs outcome.note among.result has.now (among.leaves has.now has.leaves) c.finish_first.new.self
    (first_over p q c.args.place c.args.first has.now has.values has.stands has.rest outcome.note c.finish_first.new.self (c.finish_first.ensures has.now has.stands)) c.leave.new.rows c.in-Ok.ensures.made

pub returns-in-Ok-clause-ok : goal.returns-in-Ok-clause-ok
returns-in-Ok-clause-ok g c =
    let p = c.args.progress.now in
    let q = c.leave.new.progress in
    let outcome = c.in_ok-outcome.outcome in
    let among = c.in_ok-outcome.ensures.result in
    let has = c.in-Ok.ensures.left in (
      c.requires.next,
      first_is p c.args.rows.now c.requires.core c.args.place c.args.first c.requires.left outcome.writes among.outs outcome.note among.result has.now (among.leaves has.now has.leaves) c.finish_first.new.self
          (first_over p q c.args.place c.args.first has.now has.values has.stands has.rest outcome.note c.finish_first.new.self (c.finish_first.ensures has.now has.stands)) c.leave.new.rows c.in-Ok.ensures.made,
    )

pub returns-in-Err-clause-keeps : goal.returns-in-Err-clause-keeps
returns-in-Err-clause-keeps g c = no_room_core c.args.progress.now c.leave.new.progress c.args.rows.now c.leave.new.rows c.requires.core c.args.place c.in-Err.ensures.kept c.in-Err.ensures.same

pub returns-in-Err-clause-err : goal.returns-in-Err-clause-err
returns-in-Err-clause-err g c = no_room_is c.args.progress.now c.leave.new.progress c.args.rows.now c.leave.new.rows c.requires.core c.args.place c.in-Err.ensures.kept c.in-Err.ensures.same
