-- The first parameters have values, and nothing is changed.
use Rattle.std.proofs.Common.{◌≡◌, drop}
use Rattle.std.specs.FinMap as fin
use Rattle.pac_ops.specs.Operations.{with_values}
use Rattle.pac_serial.proofs.transaction.RunningTxn.begin.Given as goal

abbrev pub invariant-loop-i : goal.invariant-loop-i
invariant-loop-i l = record {
  env : with_values l.i (drop l.i l.args) l.self.env ≡ with_values 0 l.args l.fn.self.env;
  write_set : l.self.write_set ≡ fin.empty;
}
