-- Each pair of the pieces before is counted.
use Rattle.std.specs.Prelude.{◌≡◌, ◌≤◌, take, length}
use Rattle.pac_countdown.specs.Counted.{agenda_pairs}
use Rattle.pac_countdown.specs.HandOut.{IsHeld, pairs_of_all}
use Rattle.pac_countdown.proofs.work.work.Given as goal

abbrev pub invariant-loop-at : goal.invariant-loop-at
invariant-loop-at l = record {
  held : IsHeld l.countdown l.worker;
  inside : l.at ≤ length l.worker.pieces.items;
  counted : l.worker.pass.deeds.counted ≡ pairs_of_all (agenda_pairs l.countdown.agenda) (take l.at l.worker.pieces.items);
}
