-- So many passes are lent, and the rest of the pieces is with the opener's.
use Rattle.std.specs.Prelude.{◌≡◌, ◌≤◌, All, drop, length, vec_len}
use Rattle.pac_countdown.specs.HandOut.{IsUnworked, opener_deeds}
use Rattle.pac_countdown.proofs.workers.deal.Given as goal

abbrev pub invariant-loop-worker : goal.invariant-loop-worker
invariant-loop-worker l = record {
  of : l.pass.countdown ≡ l.countdown.id;
  did : l.pass.deeds ≡ opener_deeds l.countdown.agenda.pieces (drop l.at l.ready) l.worker;
  inside : l.at ≤ length l.ready;
  all : l.worker ≡ l.workers → l.at ≡ length l.ready;
  len : vec_len l.crew ≡ l.worker;
  crew : All (IsUnworked l.countdown) l.crew.items;
}
