use Rattle.std.proofs.Common.{◌≡◌, ◌≤◌, take}
use Rattle.pac_tokens.specs.Tokens.{digits_value}
use Rattle.pac_tokens.proofs.int.magnitude.Given as goal

-- the value of the digits so far
abbrev pub invariant-loop-digit : goal.invariant-loop-digit
invariant-loop-digit l = record {
  so_far : l.value ≡ digits_value (take l.digit-index l.digits);
  small : l.value ≤ 9223372036854776007;
}
