-- No row is unfit where there is none.
use Rattle.std.proofs.Common.{List, length, ap}
use Rattle.std.proofs.lemmas.Result.{IfOk-weaker}
use Rattle.pac_types.specs.declared.table.Table.{Table}
use Rattle.pac_serial.proofs.FitLemmas.{fits-none}
use Rattle.pac_serial.proofs.opening.no_rows.Goals as goal

pub returns-clause-fits : goal.returns-clause-fits
returns-clause-fits g c =
    IfOk-weaker c.new.result _ _ (λ rows is. fits-none c.args.cat.now _ rows is (ap (λ (ts : List Table). length ts) c.tables-tables.ensures.value)) c.new.ensures
