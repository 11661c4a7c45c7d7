-- The piece of own work waits again; other work changes nothing.
use Rattle.std.proofs.Common.{List, refl, sym, ap, ◌∙◌}
use Rattle.pac_ops.specs.declared.piece.PieceId.{PieceId}
use Rattle.pac_sched.specs.Schedules.{at_position}
use Rattle.pac_core.specs.Links.{core_of}
use Rattle.pac_core.specs.Replay.{Replay}
use Rattle.pac_core.proofs.CoreMoves.{back_core, back_is}
use Rattle.pac_core.proofs.SeenSets.{seen_anew}
use Rattle.pac_core.proofs.events.give_back.Goals as goal

pub put_back-requires : goal.put_back-requires
put_back-requires g c =
    let at = c.in-Some.ensures.place in
    record {
      stands = record { set = at.stands.set; opening = at.stands.opening; there = at.stands.there };
      out = ap (at_position at.stands.opening.sched.states) at.stands.position_is ∙ at.stands.far_is;
    }

pub returns-in-Some-clause-keeps : goal.returns-in-Some-clause-keeps
returns-in-Some-clause-keeps g c = back_core (record c.args.progress.now { recent = 0 }) c.args.rows.now (seen_anew c.args.progress.now c.args.rows.now c.requires) c.in-Some.place c.args.work.now.piece c.in-Some.ensures.place c.put_back.new.self c.put_back.ensures.moved c.put_back.ensures.order refl

pub returns-in-Some-clause-back : goal.returns-in-Some-clause-back
returns-in-Some-clause-back g c = (
  (λ own. back_is (record c.args.progress.now { recent = 0 }) c.args.rows.now (seen_anew c.args.progress.now c.args.rows.now c.requires) c.in-Some.place c.args.work.now.piece c.in-Some.ensures.place c.put_back.new.self c.put_back.ensures.moved c.put_back.ensures.order refl),
  (λ foreign. absurd (foreign c.in-Some.ensures.own)),
)

pub returns-in-Some-clause-rest : goal.returns-in-Some-clause-rest
returns-in-Some-clause-rest g c =
    let p = c.args.progress.now in
    let u = c.args.rows.now in
    let is = back_is (record p { recent = 0 }) u (seen_anew p u c.requires) c.in-Some.place c.args.work.now.piece c.in-Some.ensures.place c.put_back.new.self c.put_back.ensures.moved c.put_back.ensures.order refl in
    is ∙ ap (λ (out : List PieceId). record (core_of p u) { out = out }) (ap (λ (r : Replay). r.out) (sym is))

pub own_place-requires : goal.own_place-requires
own_place-requires g c = seen_anew c.args.progress.now c.args.rows.now c.requires
