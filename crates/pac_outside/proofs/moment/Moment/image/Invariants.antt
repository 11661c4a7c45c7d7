use Rattle.std.proofs.Common.{◌≡◌, ◌<◌, ℕ, length, get_or}
use Rattle.pac_outside.specs.Fills.{byte_left}
use Rattle.pac_outside.specs.Moments.{moment_state}
use Rattle.pac_outside.proofs.moment.Moment.image.Given as goal

abbrev pub invariant-loop-offset : goal.invariant-loop-offset
invariant-loop-offset l = record {
  len : length l.image.items ≡ l.offset;
  bytes : (offset : ℕ) → offset < l.offset → get_or l.image.items offset 0 ≡ byte_left l.fill (moment_state l.self) offset;
}
