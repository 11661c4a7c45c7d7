-- The next piece is looked for, and taken.
use Rattle.std.proofs.Common.{◌≡◌, None, Some, Result, Ok, Err, subst}
use Rattle.std.specs.Prelude.{IfOk, OnErr}
use Rattle.pac_core.specs.declared.answers.Take.TheVariants.{Done, NotReady}
use Rattle.pac_core.specs.Calls.{IsTakenPiece}
use Rattle.pac_core.specs.Links.{core_of, job_of}
use Rattle.pac_core.specs.Moves.{IsNextAt}
use Rattle.pac_core.specs.Replay.{Replay}
use Rattle.pac_core.proofs.TakeNext.{all_done, next_at, next_core, next_same, none_ready, taken_before}
use Rattle.pac_core.proofs.events.take_next.Goals as goal

on_err : {A E : Type 0} {P : Type 0} (r : Result A E) → P → OnErr r P
on_err (Ok a) p = tt
on_err (Err e) p = p

pub returns-in_err-at-clause-keeps : goal.returns-in_err-at-clause-keeps
returns-in_err-at-clause-keeps g c = next_core c.args.progress.now c.next_ready.new.self c.args.rows.now c.requires c.in_err-at.ensures.keeps c.in_err-at.ensures.same c.in_err-at.ensures.sees

pub returns-in_err-at-clause-err : goal.returns-in_err-at-clause-err
returns-in_err-at-clause-err g c = on_err c.from_residual.result (next_same c.args.progress.now c.next_ready.new.self c.args.rows.now c.requires c.in_err-at.ensures.keeps c.in_err-at.ensures.same c.in_err-at.ensures.sees)

pub take_piece-requires-clause-core : goal.take_piece-requires-clause-core
take_piece-requires-clause-core g c = next_core c.args.progress.now c.next_ready.new.self c.args.rows.now c.requires c.in_ok-at.ensures.keeps c.in_ok-at.ensures.same c.in_ok-at.ensures.sees

pub take_piece-requires-clause-next : goal.take_piece-requires-clause-next
take_piece-requires-clause-next g c =
    let p = c.args.progress.now in
    let u = c.args.rows.now in
    next_at p c.next_ready.new.self u c.requires c.in_ok-at.ensures.keeps c.in_ok-at.ensures.same c.in_ok-at.ensures.sees (Some (c.in-Some.at, c.in-Some.piece))
    (subst (IsNextAt (job_of p u) c.next_ready.new.self) c.in-Some.is (c.in_ok-at.ensures.next (job_of p u) c.requires.progress c.requires.seen))

pub returns-in-Some-clause-ok : goal.returns-in-Some-clause-ok
returns-in-Some-clause-ok g c =
    subst (λ (r : Replay). IfOk c.take_piece.result (λ take. IsTakenPiece r take (core_of c.take_piece.new.progress c.take_piece.new.rows)))
    (next_same c.args.progress.now c.next_ready.new.self c.args.rows.now c.requires c.in_ok-at.ensures.keeps c.in_ok-at.ensures.same c.in_ok-at.ensures.sees) c.take_piece.ensures.ok

pub returns-in-Some-clause-err : goal.returns-in-Some-clause-err
returns-in-Some-clause-err g c =
    subst (λ (r : Replay). OnErr c.take_piece.result (core_of c.take_piece.new.progress c.take_piece.new.rows ≡ r))
    (next_same c.args.progress.now c.next_ready.new.self c.args.rows.now c.requires c.in_ok-at.ensures.keeps c.in_ok-at.ensures.same c.in_ok-at.ensures.sees) c.take_piece.ensures.err

pub returns-in-None-clause-keeps : goal.returns-in-None-clause-keeps
returns-in-None-clause-keeps g c = next_core c.args.progress.now c.next_ready.new.self c.args.rows.now c.requires c.in_ok-at.ensures.keeps c.in_ok-at.ensures.same c.in_ok-at.ensures.sees

pub returns-in-None-clause-ok : goal.returns-in-None-clause-ok
returns-in-None-clause-ok g c =
    let p = c.args.progress.now in
    let new = c.next_ready.new.self in
    let u = c.args.rows.now in
    let core = next_core p new u c.requires c.in_ok-at.ensures.keeps c.in_ok-at.ensures.same c.in_ok-at.ensures.sees in
    taken_before p new u c.requires c.in_ok-at.ensures.keeps c.in_ok-at.ensures.same c.in_ok-at.ensures.sees Done (core_of new u) (all_done new u core c.is_done.result c.if-is_done.true c.is_done.ensures)

pub returns-in-None-2-clause-keeps : goal.returns-in-None-2-clause-keeps
returns-in-None-2-clause-keeps g c = next_core c.args.progress.now c.next_ready.new.self c.args.rows.now c.requires c.in_ok-at.ensures.keeps c.in_ok-at.ensures.same c.in_ok-at.ensures.sees

pub returns-in-None-2-clause-ok : goal.returns-in-None-2-clause-ok
returns-in-None-2-clause-ok g c =
    let p = c.args.progress.now in
    let new = c.next_ready.new.self in
    let u = c.args.rows.now in
    let core = next_core p new u c.requires c.in_ok-at.ensures.keeps c.in_ok-at.ensures.same c.in_ok-at.ensures.sees in
    taken_before p new u c.requires c.in_ok-at.ensures.keeps c.in_ok-at.ensures.same c.in_ok-at.ensures.sees NotReady (core_of new u)
    (none_ready new u core (next_at p new u c.requires c.in_ok-at.ensures.keeps c.in_ok-at.ensures.same c.in_ok-at.ensures.sees None (subst (IsNextAt (job_of p u) new) c.in-None-2.is (c.in_ok-at.ensures.next (job_of p u) c.requires.progress c.requires.seen)))
    c.is_done.result c.if-is_done.false c.is_done.ensures)
