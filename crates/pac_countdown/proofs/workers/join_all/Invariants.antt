-- The lists of the passes that were joined are with the opener's.
use Rattle.std.specs.Prelude.{◌≡◌, ◌+◌, All, IfOk, vec_len}
use Rattle.pac_countdown.specs.Counted.{agenda_pairs}
use Rattle.pac_countdown.specs.HandOut.{IsWorkedOff, HasJoined}
use Rattle.pac_countdown.proofs.workers.join_all.Given as goal

abbrev pub invariant-loop-worker : goal.invariant-loop-worker
invariant-loop-worker l = record {
  of : l.pass.countdown ≡ l.countdown.id;
  joined : HasJoined (agenda_pairs l.countdown.agenda) l.countdown.agenda.pieces (vec_len l.crew) l.shares.items l.pass.deeds;
  len : vec_len l.shares + vec_len l.crew ≡ vec_len l.fn.crew;
  crew : All (λ worker. IfOk worker (IsWorkedOff l.countdown)) l.crew.items;
}

abbrev pub decreases-loop-worker : goal.decreases-loop-worker
decreases-loop-worker l = vec_len l.crew
