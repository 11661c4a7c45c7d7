-- So many pieces are opened, and those that were handed out are in the list.
use Rattle.pac_countdown.specs.HandOut.{opener_deeds, AreDistinctBelow}
use Rattle.std.specs.Prelude.{◌≡◌}
use Rattle.pac_countdown.proofs.workers.open_all.Given as goal

abbrev pub invariant-loop-piece : goal.invariant-loop-piece
invariant-loop-piece l = record {
  of : l.pass.countdown ≡ l.countdown.id;
  did : l.pass.deeds ≡ opener_deeds l.piece l.ready.items 0;
  ready : AreDistinctBelow l.piece l.ready.items;
}
