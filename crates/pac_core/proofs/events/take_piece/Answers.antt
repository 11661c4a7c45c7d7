-- Its work is given out, or it is run.
use Rattle.std.proofs.Common.{◌≢◌, ℕ, Option, Some, sym, ap, subst, ◌∙◌}
use Rattle.std.specs.Prelude.{IfSome}
use Rattle.pac_ops.specs.declared.piece.PieceId.{PieceId}
use Rattle.pac_piece.specs.declared.work.Work.{Work}
use Rattle.pac_plan.specs.declared.access.Access.TheVariants.{Whole}
use Rattle.pac_sched.specs.declared.state.PieceState.TheVariants as state
use Rattle.pac_core.specs.Calls.{IsGivenWork}
use Rattle.pac_core.specs.Links.{core_of}
use Rattle.pac_core.specs.Moves.{IsReadyAtOffset}
use Rattle.pac_core.specs.Replay.{with_out}
use Rattle.pac_core.specs.Takes.{IsNextPiece, access_now}
use Rattle.pac_core.proofs.CoreMoves.{taken_core, taken_is}
use Rattle.pac_core.proofs.TakeNext.{first_picked}
use Rattle.pac_core.proofs.events.take_piece.Goals as goal

pub returns-in-Some-clause-keeps : goal.returns-in-Some-clause-keeps
returns-in-Some-clause-keeps g c =
    let p = c.args.progress.now in
    let u = c.args.rows.now in
    let place = c.place_of_ready-place.result in
    let at = c.place_of_ready-place.ensures.placed in
    let given = subst (λ (o : Option Work). IfSome o (IsGivenWork (core_of p u) c.args.piece)) c.in-Some.is c.in_ok-work.ensures.given in
    let first = first_picked p place c.args.piece state.Waiting at (subst (λ (n : ℕ). IsReadyAtOffset p n c.args.piece) (sym c.place_of_ready-place.ensures.at) c.requires.next.1) in
    taken_core p u c.requires.core place c.args.piece at c.requires.next.0.0 given.1 first c.hand_out.new.self c.hand_out.ensures.moved c.hand_out.ensures.order

pub returns-in-Some-clause-ok : goal.returns-in-Some-clause-ok
returns-in-Some-clause-ok g c =
    let p = c.args.progress.now in
    let u = c.args.rows.now in
    let place = c.place_of_ready-place.result in
    let at = c.place_of_ready-place.ensures.placed in
    let given = subst (λ (o : Option Work). IfSome o (IsGivenWork (core_of p u) c.args.piece)) c.in-Some.is c.in_ok-work.ensures.given in
    let first = first_picked p place c.args.piece state.Waiting at (subst (λ (n : ℕ). IsReadyAtOffset p n c.args.piece) (sym c.place_of_ready-place.ensures.at) c.requires.next.1) in (
      subst (λ (q : PieceId). IsNextPiece (core_of p u) (Some q)) (sym given.0) c.requires.next.0,
      subst (λ (q : PieceId). access_now (core_of p u) q ≢ Whole) (sym given.0) given.1,
      given.2,
      given.3,
      taken_is p u c.requires.core place c.args.piece at c.requires.next.0.0 given.1 first c.hand_out.new.self c.hand_out.ensures.moved c.hand_out.ensures.order ∙ ap (with_out (core_of p u)) (sym given.0),
    )
