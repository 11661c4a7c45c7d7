-- Mixing in the bytes that are left gives the number of all.
use Rattle.std.proofs.Common.{◌≡◌, ◌<◌, drop}
use Rattle.pac_tuple.specs.Shares.{bytes_mixed}
use Rattle.pac_tuple.proofs.share.mix.Given as goal

abbrev pub invariant-loop-byte : goal.invariant-loop-byte
invariant-loop-byte l = record {
  value : bytes_mixed l.number (drop l.byte-index l.bytes) ≡ bytes_mixed 0 l.bytes;
  few : l.number < 4294967296;
}
