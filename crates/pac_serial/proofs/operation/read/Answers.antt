-- What is read has the default's type.
use Rattle.std.proofs.Common.{ap, ◌∙◌}
use Rattle.pac_value.specs.Values.{type_of}
use Rattle.pac_value.specs.Expressions.{types_of}
use Rattle.pac_value.specs.State.{Cell}
use Rattle.pac_value.specs.Scopes.{with_var}
use Rattle.pac_ops.specs.Operations.{column_or}
use Rattle.pac_serial.specs.WriteSets.{as_changed}
use Rattle.pac_serial.proofs.FitLemmas.{column_or-type}
use Rattle.pac_serial.proofs.operation.read.Goals as goal

pub returns-clause-types : goal.returns-clause-types
returns-clause-types g c =
    let cell : Cell = (c.args.target.now.table, c.in_ok-key.key) in
    c.in_ok-define.ensures.types
    ∙ ap (with_var (types_of c.args.txn.now.env) c.args.var)
    (ap type_of (c.column_or-value.ensures ∙ ap (λ o. column_or o c.args.column c.args.default.now) c.get.ensures)
    ∙ column_or-type c.args.tables.now (as_changed (g.R.Rows.held c.args.rows.now) c.args.txn.now.write_set) cell c.args.column c.args.default.now c.requires.over.fits c.requires.column)
