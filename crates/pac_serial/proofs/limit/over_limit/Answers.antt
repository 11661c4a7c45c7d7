-- The table at hand is the first that is over the limit.
use Rattle.std.proofs.Common.{sym, ap, ◌∙◌, arith}
use Rattle.std.specs.Option.{option_map}
use Rattle.pac_serial.specs.WriteSets.{as_changed}
use Rattle.pac_serial.proofs.LimitLemmas.{over-first}
use Rattle.pac_serial.proofs.limit.over_limit.Goals as goal

pub returns-then-is_over : goal.returns-then-is_over
returns-then-is_over g c =
    sym (ap (option_map (λ found. found.0)) (over-first c.args.limit c.loop-table.table (g.R.Rows.tables c.args.rows.now) (as_changed (g.R.Rows.held c.args.rows.now) c.args.write_set.now) c.loop-table.invariant
    (sym c.is_over.ensures ∙ c.if-is_over.true) (omega (arith, c.loop-table-test.true))))
