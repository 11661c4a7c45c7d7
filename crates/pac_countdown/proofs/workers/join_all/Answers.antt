-- One pass more is joined.
use Rattle.std.proofs.Common.{ℕ, ◌+◌, List, [], ◌∷◌, ◌++◌, length, IfOk, ap, ◌∙◌, subst, sym, arith}
use Rattle.pac_countdown.specs.Counted.{agenda_pairs}
use Rattle.pac_countdown.specs.HandOut.{IsWorkedOff, HasJoined}
use Rattle.pac_countdown.proofs.Outs.{all_front, joined_on}
use Rattle.pac_countdown.proofs.workers.join_all.Goals as goal

pub loop-worker-preserved : goal.loop-worker-preserved
loop-worker-preserved c =
    let countdown = c.args.countdown.now in
    let popped = c.in-Some.ensures in
    let inv = c.loop-worker.invariant in
    let len = inv.len in
    let fewer = popped.len in
    let pushed = c.in_ok-push.ensures in
    let longer = pushed.len in
    let worker = c.in_ok-other.field-0 in
    let left = length c.pop.new.self.items in
    let parts = all_front (λ (j : _). IfOk j (IsWorkedOff countdown)) c.loop-worker.crew.items c.pop.new.self.items c.in-Some.worker inv.crew popped.items in
    let done = subst (λ (j : _). IfOk j (IsWorkedOff countdown)) c.in_ok-other.was parts.1 in
    let before : HasJoined (agenda_pairs countdown.agenda) countdown.agenda.pieces (c.pop.new.self.len + 1) c.loop-worker.shares.items c.loop-worker.pass.deeds =
    subst (λ (n : ℕ). HasJoined (agenda_pairs countdown.agenda) countdown.agenda.pieces n c.loop-worker.shares.items c.loop-worker.pass.deeds) (sym fewer) inv.joined in record {
      of = c.join.ensures.of.0;
      joined = subst (λ (l : List (List ℕ)). HasJoined (agenda_pairs countdown.agenda) countdown.agenda.pieces c.pop.new.self.len l c.join.new.pass.deeds) (sym (pushed.items ∙ ap (λ (l : List ℕ). c.loop-worker.shares.items ++ l ∷ []) c.listed.ensures))
          (joined_on countdown countdown.agenda.pieces c.pop.new.self.len c.loop-worker.shares.items c.loop-worker.pass.deeds c.join.new.pass.deeds worker before done c.join.ensures.did);
      len = omega arith;
      crew = parts.0;
    }
