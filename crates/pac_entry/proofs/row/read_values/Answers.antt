-- Each step reads one value, of its column's type.
use Rattle.std.proofs.lemmas.Result.{err_from_is_err_and}
use Rattle.pac_base.specs.declared.refusal.Refusal.TheVariants.{Fault}
use Rattle.pac_types.specs.WellFormed.{types}
use Rattle.pac_bytes.specs.Reading.{from}
use Rattle.pac_bytes.specs.Typed.{next_typed}
use Rattle.pac_bytes.proofs.Loops.{along-on, along-fails, along-done}
use Rattle.pac_entry.proofs.RowLemmas.{next_type_of, no_type}
use Rattle.pac_entry.proofs.row.read_values.Goals as goal

pub returns-in_err-value : goal.returns-in_err-value
returns-in_err-value c =
    let p = err_from_is_err_and c.from_residual-in_err-value.result c.from_residual-in_err-value.ensures.1 in
    let next = next_type_of c.args.columns.now c.loop-column.column-index c.column-item.result c.loop-column-test.true c.column-item.is in
    rw (p.1, p.2) (along-fails next_typed (Fault c.in_err-value.field-0.0) c.loop-column.values.items (types c.args.columns.now) c.loop-column.column-index _ (from c.args.bytes.now c.loop-column.offset) _ next c.in_err-value.ensures.exact c.loop-column.invariant)

pub loop-column-preserved : goal.loop-column-preserved
loop-column-preserved c =
    let next = next_type_of c.args.columns.now c.loop-column.column-index c.column-item.result c.loop-column-test.true c.column-item.is in
    rw c.in_ok-push.ensures.items (along-on next_typed c.loop-column.values.items (types c.args.columns.now) c.loop-column.column-index _ (from c.args.bytes.now c.loop-column.offset) (from c.args.bytes.now c.in_ok-value.end) c.in_ok-value.value _ next c.in_ok-value.ensures.exact c.loop-column.invariant)

pub returns : goal.returns
returns c = along-done next_typed c.loop-column.values.items (types c.args.columns.now) c.loop-column.column-index (from c.args.bytes.now c.loop-column.offset) _ (no_type c.args.columns.now c.loop-column.column-index c.loop-column-test.false) c.loop-column.invariant
