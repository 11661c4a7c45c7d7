-- A row stays one.
use Rattle.std.proofs.Common.{◌∙◌}
use Rattle.pac_serial.proofs.FitLemmas.{IsRow-set}
use Rattle.pac_serial.proofs.operation.with_column.Goals as goal

pub of-requires : goal.of-requires
of-requires c = IsRow-set c.args.row.now c.in_ok-values.values.items c.from.result c.args.value (c.in_ok-values.ensures ∙ c.items.ensures.value) c.items.ensures.rule c.requires.stored
