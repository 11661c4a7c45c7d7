-- The next piece is looked for, which changes nothing that counts, and is run.
use Rattle.std.proofs.Common.{◌≡◌, None, Option, Result, Ok, Err, Some, subst}
use Rattle.std.specs.Prelude.{IfOk, OnErr}
use Rattle.pac_ops.specs.declared.piece.PieceId.{PieceId}
use Rattle.pac_core.specs.Calls.{IsNextFinished}
use Rattle.pac_core.specs.Links.{core_of, job_of}
use Rattle.pac_core.specs.Moves.{IsNextAlone}
use Rattle.pac_core.specs.Replay.{Replay}
use Rattle.pac_core.specs.Takes.{IsNextPiece}
use Rattle.pac_core.proofs.TakeNext.{alone_at, next_core, next_same}
use Rattle.pac_core.proofs.events.run_next.Goals as goal

on_err : {A E P : Type 0} (r : Result A E) → P → OnErr r P
on_err (Ok a) p = tt
on_err (Err e) p = p

pub returns-in_err-next-clause-keeps : goal.returns-in_err-next-clause-keeps
returns-in_err-next-clause-keeps g c = next_core c.args.progress.now c.next_alone.new.self c.args.rows.now c.requires c.in_err-next.ensures.keeps c.in_err-next.ensures.same c.in_err-next.ensures.sees

pub returns-in_err-next-clause-err : goal.returns-in_err-next-clause-err
returns-in_err-next-clause-err g c = on_err c.from_residual.result (next_same c.args.progress.now c.next_alone.new.self c.args.rows.now c.requires c.in_err-next.ensures.keeps c.in_err-next.ensures.same c.in_err-next.ensures.sees)

pub run_alone-requires-clause-core : goal.run_alone-requires-clause-core
run_alone-requires-clause-core g c = next_core c.args.progress.now c.next_alone.new.self c.args.rows.now c.requires c.in_ok-next.ensures.keeps c.in_ok-next.ensures.same c.in_ok-next.ensures.sees

pub run_alone-requires-clause-next : goal.run_alone-requires-clause-next
run_alone-requires-clause-next g c =
    let p = c.args.progress.now in
    let u = c.args.rows.now in
    alone_at p c.next_alone.new.self u c.requires c.in_ok-next.ensures.keeps c.in_ok-next.ensures.same c.in_ok-next.ensures.sees (Some c.in-Some.next)
    (subst (IsNextAlone (job_of p u) c.next_alone.new.self) c.in-Some.is (c.in_ok-next.ensures.next (job_of p u) c.requires.progress c.requires.seen))

pub returns-in-Some-clause-ok : goal.returns-in-Some-clause-ok
returns-in-Some-clause-ok g c =
    subst (λ (r : Replay). IfOk c.run_alone.result (λ (next : Option PieceId). IsNextFinished r next (core_of c.run_alone.new.progress c.run_alone.new.rows)))
    (next_same c.args.progress.now c.next_alone.new.self c.args.rows.now c.requires c.in_ok-next.ensures.keeps c.in_ok-next.ensures.same c.in_ok-next.ensures.sees) c.run_alone.ensures.ok

pub returns-in-Some-clause-err : goal.returns-in-Some-clause-err
returns-in-Some-clause-err g c =
    subst (λ (r : Replay). OnErr c.run_alone.result (core_of c.run_alone.new.progress c.run_alone.new.rows ≡ r))
    (next_same c.args.progress.now c.next_alone.new.self c.args.rows.now c.requires c.in_ok-next.ensures.keeps c.in_ok-next.ensures.same c.in_ok-next.ensures.sees) c.run_alone.ensures.err

pub returns-in-None-clause-keeps : goal.returns-in-None-clause-keeps
returns-in-None-clause-keeps g c = next_core c.args.progress.now c.next_alone.new.self c.args.rows.now c.requires c.in_ok-next.ensures.keeps c.in_ok-next.ensures.same c.in_ok-next.ensures.sees

pub returns-in-None-clause-ok : goal.returns-in-None-clause-ok
returns-in-None-clause-ok g c =
    let p = c.args.progress.now in
    let u = c.args.rows.now in
    let same = next_same p c.next_alone.new.self u c.requires c.in_ok-next.ensures.keeps c.in_ok-next.ensures.same c.in_ok-next.ensures.sees in (
      subst (λ (r : Replay). IsNextPiece r None) same
          (alone_at p c.next_alone.new.self u c.requires c.in_ok-next.ensures.keeps c.in_ok-next.ensures.same c.in_ok-next.ensures.sees None
          (subst (IsNextAlone (job_of p u) c.next_alone.new.self) c.in-None.is (c.in_ok-next.ensures.next (job_of p u) c.requires.progress c.requires.seen))),
      same,
    )
