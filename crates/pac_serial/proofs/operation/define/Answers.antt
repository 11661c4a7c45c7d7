-- One more variable has a type.
use Rattle.std.proofs.Common.{ap, ◌∙◌}
use Rattle.pac_value.specs.Expressions.{types_of}
use Rattle.pac_serial.proofs.FitLemmas.{types_of-insert}
use Rattle.pac_serial.proofs.operation.define.Goals as goal

pub returns-clause-types : goal.returns-clause-types
returns-clause-types c = ap types_of c.in_ok-set.ensures.ok ∙ types_of-insert c.args.env.now c.args.var c.args.value.now
