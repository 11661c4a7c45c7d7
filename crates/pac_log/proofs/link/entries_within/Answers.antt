-- The entries fill their bytes, or are refused.
use Rattle.std.proofs.Common.{sym, subst}
use Rattle.pac_base.specs.Refusals.{Fails}
use Rattle.pac_bytes.specs.Reading.{from}
use Rattle.pac_log.specs.BodyReading.{next_entries}
use Rattle.pac_log.proofs.FillingLemmas.{entries_there, entries_left, entries_fail}
use Rattle.pac_log.proofs.link.entries_within.Goals as goal

pub returns-in-Ok-clause-exact : goal.returns-in-Ok-clause-exact
returns-in-Ok-clause-exact c =
    subst (λ e. Fails e (next_entries c.args.cat.now c.args.count c.args.len (from c.args.bytes.now c.args.at))) (sym c.refused.ensures)
    (rw c.range_at.ensures (entries_left c.args.cat.now c.args.count c.args.len c.args.at c.args.bytes.now c.requires.there c.in-Ok.field-0-0.items c.in-Ok.place c.if-place-end.true c.in-Ok.ensures.exact))

pub returns-in-Ok-2-clause-exact : goal.returns-in-Ok-2-clause-exact
returns-in-Ok-2-clause-exact c = entries_there c.args.cat.now c.args.count c.args.len c.args.at c.args.bytes.now c.requires.there c.in-Ok.field-0-0.items c.in-Ok.place c.if-place-end.false c.in-Ok.ensures.exact

pub returns-in-Err-Fault-clause-exact : goal.returns-in-Err-Fault-clause-exact
returns-in-Err-Fault-clause-exact c =
    subst (λ e. Fails e (next_entries c.args.cat.now c.args.count c.args.len (from c.args.bytes.now c.args.at))) (sym c.refused-in-Err-Fault.ensures)
    (rw c.from.ensures (entries_fail c.args.cat.now c.args.count c.args.len c.args.at c.args.bytes.now c.requires.there c.in-Err-Fault.field-0 c.in-Err-Fault.fault c.in-Err-Fault.field-0-is c.in-Err-Fault.ensures.exact))
