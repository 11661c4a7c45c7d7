use Rattle.std.proofs.Common.{◌≡◌, ◌<◌, ◌^◌, take}
use Rattle.pac_arguments.specs.Numbers.{digits_number}
use Rattle.pac_arguments.proofs.number.digits_number.Given as goal

abbrev pub invariant-loop-digit : goal.invariant-loop-digit
invariant-loop-digit l = record { is : l.number ≡ digits_number (take l.digit-index l.digits); small : l.number < 10 ^ l.digit-index }
