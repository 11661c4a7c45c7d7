-- What is read goes on from what was given, or ends it.
use Rattle.std.proofs.Common.{All, Ok, Option, ap, subst}
use Rattle.pac_ops.specs.declared.batch.Batch.{Batch}
use Rattle.pac_types.specs.Fits.{TxnFits}
use Rattle.pac_log.specs.declared.errors.LogError.TheVariants as error
use Rattle.pac_log.specs.declared.position.NextGate.{NextGate}
use Rattle.pac_log.specs.declared.reader.ReaderParts.{ReaderParts}
use Rattle.pac_log.specs.Reading.{IsNextBatch}
use Rattle.pac_restore.proofs.CauseLemmas.{as-error, at-some, same-error}
use Rattle.pac_recover.proofs.FedLemmas.{counted-so, ends-all, ends-refused, gives-more}
use Rattle.pac_restore.proofs.ReadLemmas.{ReportsNext}
use Rattle.pac_recover.proofs.log_feed.read.Goals as goal

pub returns-in-Ok-Some-clause-given : goal.returns-in-Ok-Some-clause-given
returns-in-Ok-Some-clause-given g c = λ known from batches end is.
    let old = c.args.reader.now.gate in
    let new = c.next_batch.new.self.gate in
    let found = c.in-Ok-Some.field-0 in
    let batch = c.in-Ok-Some.batch in
    gives-more known (g.D.Disk.known c.args.disk.now) (g.D.Disk.known c.next_batch.new.disk) from old new batches end is c.next_batch.ensures.same batch
    (at-some (IsNextBatch old new) found batch c.in-Ok-Some.field-0-is c.in-Ok-Some.ensures.batch)
    (at-some (λ (b : Batch). All (TxnFits old.catalogue) b.txns) found batch c.in-Ok-Some.field-0-is c.in-Ok-Some.ensures.fits)
    (subst (λ (o : Option Batch). ReportsNext old new (Ok o) (g.D.Disk.known c.args.disk.now)) c.in-Ok-Some.field-0-is c.in-Ok-Some.ensures.reads_on)

pub returns-in-Ok-None-clause-ends : goal.returns-in-Ok-None-clause-ends
returns-in-Ok-None-clause-ends g c = λ known from batches end is.
    let old = c.args.reader.now.gate in
    ends-all known (g.D.Disk.known c.args.disk.now) (g.D.Disk.known c.next_batch.new.disk) from old c.next_batch.new.self.gate batches end is c.next_batch.ensures.same
    (ap (λ (p : ReaderParts). p.gate) (c.in-Ok-None.ensures.end (ap (λ (o : Option Batch). Ok o) c.in-Ok-None.field-0-is)))
    (subst (λ (o : Option Batch). ReportsNext old c.next_batch.new.self.gate (Ok o) (g.D.Disk.known c.args.disk.now)) c.in-Ok-None.field-0-is c.in-Ok-None.ensures.reads_on)

pub returns-in-Err-clause-ends : goal.returns-in-Err-clause-ends
returns-in-Err-clause-ends g c = λ known from batches end is.
    ends-refused known (g.D.Disk.known c.args.disk.now) (g.D.Disk.known c.next_batch.new.disk) from c.args.reader.now.gate c.next_batch.new.self.gate batches end is c.next_batch.ensures.same
    (ap (λ (p : ReaderParts). p.gate) c.in-Err.ensures.refused) c.in-Err.cause (λ store. c.in-Err.ensures.known (as-error _ _ store)) c.in-Err.ensures.reads_on

pub returns-in-Err-clause-counted : goal.returns-in-Err-clause-counted
returns-in-Err-clause-counted g c =
    counted-so (g.D.Disk.faults c.args.disk.now) (g.D.Disk.faults c.next_batch.new.disk) c.in-Err.cause (λ fault. c.in-Err.ensures.counted (as-error _ _ fault))
    (λ other. c.in-Err.ensures.kept (λ fault. other (same-error c.in-Err.cause error.DiskFault fault)))

pub returns-in-Ok-Some-clause-place : goal.returns-in-Ok-Some-clause-place
returns-in-Ok-Some-clause-place g c =
    let old = c.args.reader.now.gate in
    let new = c.next_batch.new.self.gate in
    let next = at-some (IsNextBatch old new) c.in-Ok-Some.field-0 c.in-Ok-Some.batch c.in-Ok-Some.field-0-is c.in-Ok-Some.ensures.batch in
    ap (λ (gate : NextGate). gate.place) next.gate
