-- The catalogue's text is accepted, and then the lists are read; or it isn't.
use Rattle.std.proofs.Common.{Err, sym, ap, subst, arith}
use Rattle.pac_base.specs.declared.refusal.Refusal.{Refusal}
use Rattle.pac_entry.proofs.ReadingLemmas.{few_tables}
use Rattle.pac_flat.specs.declared.acceptance.AcceptFault.{AcceptFault}
use Rattle.pac_main.specs.declared.image_log.LogFault.TheVariants.{Unaccepted}
use Rattle.pac_main.proofs.LogLemmas.{OnlyThis, log-said, unaccepted-once}
use Rattle.pac_main.proofs.image_log.read_parts.Goals as goal

pub returns-in-Ok-clause-says : goal.returns-in-Ok-clause-says
returns-in-Ok-clause-says c =
    let catalogue = c.in-Ok.catalogue in
    let few = few_tables catalogue.tables (omega (arith, c.tables-tables.ensures.few)) c.tables-tables.ensures.well_formed in
    (log-said c.args.prefix.now c.args.bytes.now catalogue few c.in-Ok.ensures.ok c.with_lists.result c.with_lists.ensures.same c.with_lists.ensures.are c.with_lists.ensures.bytes c.with_lists.ensures.fault).0

pub returns-in-Ok-clause-only : goal.returns-in-Ok-clause-only
returns-in-Ok-clause-only c =
    let catalogue = c.in-Ok.catalogue in
    let few = few_tables catalogue.tables (omega (arith, c.tables-tables.ensures.few)) c.tables-tables.ensures.well_formed in
    (log-said c.args.prefix.now c.args.bytes.now catalogue few c.in-Ok.ensures.ok c.with_lists.result c.with_lists.ensures.same c.with_lists.ensures.are c.with_lists.ensures.bytes c.with_lists.ensures.fault).1

pub returns-in-Err-Fault-clause-only : goal.returns-in-Err-Fault-clause-only
returns-in-Err-Fault-clause-only c =
    subst (λ (fault : AcceptFault). OnlyThis c.args.prefix.now c.args.bytes.now (Err (Unaccepted fault))) (sym c.in-Err-Fault.fault-is)
    (unaccepted-once c.args.prefix.now c.args.bytes.now c.in-Err-Fault.fault (c.in-Err-Fault.ensures.fault c.in-Err-Fault.fault (ap (λ (refusal : Refusal AcceptFault). Err refusal) c.in-Err-Fault.field-0-is)))
