-- The lists so far are those of the bytes so far.
use Rattle.std.proofs.Common.{length, ◌-◌}
use Rattle.pac_tuple.specs.Laying.{AreLaidWithin}
use Rattle.pac_main.proofs.LogLemmas.{ReadSoFar}
use Rattle.pac_main.proofs.image_log.read_lists.Given as goal

abbrev pub invariant-loop-at : goal.invariant-loop-at
invariant-loop-at l = record {
  read : ReadSoFar l.catalogue.tables l.bytes l.at l.images;
  within : AreLaidWithin (length l.catalogue.tables) l.images;
}

abbrev pub decreases-loop-at : goal.decreases-loop-at
decreases-loop-at l = length l.bytes - l.at
