use Rattle.std.proofs.Common.{arith}
use Rattle.pac_arguments.proofs.NumberLemmas.{few_small}
use Rattle.pac_arguments.proofs.number.digits_number.Goals as goal

pub overflow_mul-number : goal.overflow_mul-number
overflow_mul-number c = omega (arith, few_small c.loop-digit.digit-index c.loop-digit.number (omega arith) c.loop-digit.invariant.small)

pub overflow_add-number : goal.overflow_add-number
overflow_add-number c = omega (arith, few_small c.loop-digit.digit-index c.loop-digit.number (omega arith) c.loop-digit.invariant.small)
