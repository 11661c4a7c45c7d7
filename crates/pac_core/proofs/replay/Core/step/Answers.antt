-- The piece that comes next is run, and one is ready.
use Rattle.std.proofs.Common.{◌+◌, Option, Some, None, sym, ap, subst, ◌∙◌}
use Rattle.pac_ops.specs.declared.piece.PieceId.{PieceId}
use Rattle.pac_core.specs.Calls.{IsDrained, IsNextFinished}
use Rattle.pac_core.specs.Replay.{Replay, left}
use Rattle.pac_core.proofs.DrainSteps.{drained_ran, left_after}
use Rattle.pac_core.proofs.replay.Core.step.Goals as goal

pub unreachable-requires : goal.unreachable-requires
unreachable-requires g c =
    let next : IsNextFinished c.args.self.now None c.run_next.new.self = subst (λ (o : Option PieceId). IsNextFinished c.args.self.now o c.run_next.new.self) c.in-None.is c.in_ok-next.ensures.ok in
    c.keeps_invariant.ensures.ready c.requires.none c.requires.some next.0

pub returns-clause-ok : goal.returns-clause-ok
returns-clause-ok g c =
    let old = c.args.self.now in
    let next : IsNextFinished old (Some c.in-Some.field-0) c.run_next.new.self = subst (λ (o : Option PieceId). IsNextFinished old o c.run_next.new.self) c.in-Some.is c.in_ok-next.ensures.ok in
    ap (λ (r : Replay). left r + 1) next.1 ∙ left_after old c.in-Some.field-0 next.0

pub returns-clause-drained : goal.returns-clause-drained
returns-clause-drained g c =
    let old = c.args.self.now in
    let next : IsNextFinished old (Some c.in-Some.field-0) c.run_next.new.self = subst (λ (o : Option PieceId). IsNextFinished old o c.run_next.new.self) c.in-Some.is c.in_ok-next.ensures.ok in
    subst (IsDrained old) (sym next.1) (drained_ran old c.in-Some.field-0 next.0 c.requires.none c.keeps_invariant.ensures.sound.machine.finished)
