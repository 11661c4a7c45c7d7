-- A procedure has no more names than parameters and statements.
use Rattle.std.proofs.Common.{arith, ap, length}
use Rattle.pac_types.proofs.CountLemmas.{variables_few}
use Rattle.pac_types.proofs.checker.procedures.check_proc.Goals as goal

pub of-requires : goal.of-requires
of-requires c = omega (arith, variables_few c.args.node.now, ap length c.in_ok-variables_of.ensures, c.in_ok-variables_of.field-0.ok.0, c.requires.short)
