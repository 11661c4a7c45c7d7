-- What comes next is looked for, which changes nothing that counts.
use Rattle.std.proofs.Common.{None, Some, sym, subst}
use Rattle.pac_ops.specs.declared.piece.PieceId.{PieceId}
use Rattle.pac_core.specs.Links.{core_of, job_of}
use Rattle.pac_core.specs.Moves.{IsNextAlone, piece_of}
use Rattle.pac_core.specs.Replay.{Replay}
use Rattle.pac_core.specs.Takes.{IsNextPiece}
use Rattle.pac_core.proofs.TakeNext.{alone_at, next_core, next_same}
use Rattle.pac_core.proofs.events.coming.Goals as goal

pub returns-in_err-next-clause-keeps : goal.returns-in_err-next-clause-keeps
returns-in_err-next-clause-keeps g c = next_core c.args.progress.now c.next_alone.new.self c.args.rows.now c.requires c.in_err-next.ensures.keeps c.in_err-next.ensures.same c.in_err-next.ensures.sees

pub returns-in_err-next-clause-same : goal.returns-in_err-next-clause-same
returns-in_err-next-clause-same g c = next_same c.args.progress.now c.next_alone.new.self c.args.rows.now c.requires c.in_err-next.ensures.keeps c.in_err-next.ensures.same c.in_err-next.ensures.sees

pub returns-in-Some-clause-keeps : goal.returns-in-Some-clause-keeps
returns-in-Some-clause-keeps g c = next_core c.args.progress.now c.next_alone.new.self c.args.rows.now c.requires c.in_ok-next.ensures.keeps c.in_ok-next.ensures.same c.in_ok-next.ensures.sees

pub returns-in-Some-clause-next : goal.returns-in-Some-clause-next
returns-in-Some-clause-next g c =
    let p = c.args.progress.now in
    let u = c.args.rows.now in
    subst (λ (q : PieceId). IsNextPiece (core_of p u) (Some q)) (sym c.piece.ensures)
    (subst (λ (r : Replay). IsNextPiece r (Some (piece_of c.in-Some.next))) (next_same p c.next_alone.new.self u c.requires c.in_ok-next.ensures.keeps c.in_ok-next.ensures.same c.in_ok-next.ensures.sees)
    (alone_at p c.next_alone.new.self u c.requires c.in_ok-next.ensures.keeps c.in_ok-next.ensures.same c.in_ok-next.ensures.sees (Some c.in-Some.next)
    (subst (IsNextAlone (job_of p u) c.next_alone.new.self) c.in-Some.is (c.in_ok-next.ensures.next (job_of p u) c.requires.progress c.requires.seen))).0)

pub returns-in-Some-clause-same : goal.returns-in-Some-clause-same
returns-in-Some-clause-same g c = next_same c.args.progress.now c.next_alone.new.self c.args.rows.now c.requires c.in_ok-next.ensures.keeps c.in_ok-next.ensures.same c.in_ok-next.ensures.sees

pub returns-in-None-clause-keeps : goal.returns-in-None-clause-keeps
returns-in-None-clause-keeps g c = next_core c.args.progress.now c.next_alone.new.self c.args.rows.now c.requires c.in_ok-next.ensures.keeps c.in_ok-next.ensures.same c.in_ok-next.ensures.sees

pub returns-in-None-clause-next : goal.returns-in-None-clause-next
returns-in-None-clause-next g c =
    let p = c.args.progress.now in
    let u = c.args.rows.now in
    subst (λ (r : Replay). IsNextPiece r None) (next_same p c.next_alone.new.self u c.requires c.in_ok-next.ensures.keeps c.in_ok-next.ensures.same c.in_ok-next.ensures.sees)
    (alone_at p c.next_alone.new.self u c.requires c.in_ok-next.ensures.keeps c.in_ok-next.ensures.same c.in_ok-next.ensures.sees None
    (subst (IsNextAlone (job_of p u) c.next_alone.new.self) c.in-None.is (c.in_ok-next.ensures.next (job_of p u) c.requires.progress c.requires.seen)))

pub returns-in-None-clause-same : goal.returns-in-None-clause-same
returns-in-None-clause-same g c = next_same c.args.progress.now c.next_alone.new.self c.args.rows.now c.requires c.in_ok-next.ensures.keeps c.in_ok-next.ensures.same c.in_ok-next.ensures.sees
