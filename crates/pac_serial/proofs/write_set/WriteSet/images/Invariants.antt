-- The images of the first changes.
use Rattle.std.proofs.Common.{◌≡◌, map, take}
use Rattle.pac_serial.specs.WriteSets.{image_left}
use Rattle.pac_serial.proofs.write_set.WriteSet.images.Given as goal

abbrev pub invariant-loop-change : goal.invariant-loop-change
invariant-loop-change l = l.images.items ≡ map image_left (take l.change-index l.change-items)
