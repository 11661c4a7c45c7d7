-- Gate after gate is looked at, and the batch after it passed over.
use Rattle.std.proofs.Common.{◌∙◌, Ok, Err, Option, ap, refl, sym, subst, arith}
use Rattle.std.proofs.lemmas.Result.{err_from_is_err_and}
use Rattle.std.specs.List.{All}
use Rattle.pac_ops.specs.declared.batch.Batch.{Batch}
use Rattle.pac_outside.specs.Disk.{DiskHistory}
use Rattle.pac_types.specs.Fits.{TxnFits}
use Rattle.pac_log.specs.declared.errors.LogError.{LogError}
use Rattle.pac_log.specs.declared.errors.LogError.TheVariants as error
use Rattle.pac_log.specs.declared.position.NextGate.{NextGate}
use Rattle.pac_log.specs.declared.reader.ReaderParts.{ReaderParts}
use Rattle.pac_log.specs.Reading.{IsNextBatch}
use Rattle.pac_restore.proofs.CauseLemmas.{at-some, no-error, the-cause}
use Rattle.pac_restore.specs.Reads.{IsAtNewest}
use Rattle.pac_restore.proofs.ReadLemmas.{ReportsNext, more-txns, not-passed, on-damage, seeks-more, seeks-none, sought-here, sought-none}
use Rattle.pac_restore.proofs.segment.seek.Goals as goal

pub loop-init : goal.loop-init
loop-init g c = record {
  seeks = seeks-none (g.D.Disk.known c.args.disk.now) c.args.newest c.args.reader.now.gate;
  counted = omega arith;
  same = refl;
  quiet = refl;
}

pub returns-in_err-next_batch-clause-damaged : goal.returns-in_err-next_batch-clause-damaged
returns-in_err-next_batch-clause-damaged g c = λ at kind is header.
    let r = c.from_residual in
    let p = err_from_is_err_and r.result r.ensures.1 in
    let old = c.args.reader.now.gate in
    let mid = c.loop.reader.gate in
    let new = c.next_batch.new.self.gate in
    let known = g.D.Disk.known c.args.disk.now in
    let cause = the-cause r.result p.0 c.in_err-next_batch.field-0.0 (error.Damaged at kind) p.1 p.2 is in
    let knows = subst (λ (t : Option DiskHistory). ReportsNext mid new (Err c.in_err-next_batch.field-0.0) t) c.loop.invariant.same c.in_err-next_batch.ensures.reads_on in
    on-damage header _ old mid new c.loop.invariant.seeks.batches at kind known c.loop.invariant.seeks.read.catalogue (c.loop.invariant.seeks.reads header _) (subst (λ (e : LogError). ReportsNext mid new (Err e) known) cause knows)

pub returns-then-is_at_newest-clause-sought : goal.returns-then-is_at_newest-clause-sought
returns-then-is_at_newest-clause-sought g c = sought-here _ _ _ _ c.loop.invariant.seeks (subst (λ (gate : NextGate). IsAtNewest c.args.newest gate) c.gate.ensures (c.is_at_newest.ensures.0 c.if-is_at_newest.true))

pub returns-in-None-clause-sought : goal.returns-in-None-clause-sought
returns-in-None-clause-sought g c =
    let mid = c.loop.reader.gate in
    let new = c.next_batch.new.self.gate in
    let known = g.D.Disk.known c.args.disk.now in
    let knows = subst (λ (t : Option DiskHistory). ReportsNext mid new (Ok c.in_ok-next_batch.field-0) t) c.loop.invariant.same c.in_ok-next_batch.ensures.reads_on in
    let end = ap (λ (p : ReaderParts). p.gate) (c.in_ok-next_batch.ensures.end (ap (λ (o : Option Batch). Ok o) c.in-None.is)) in
    sought-none known c.args.newest c.args.reader.now.gate mid new c.loop.invariant.seeks
    (λ at. not-passed c.is_at_newest.result c.is_at_newest.ensures.1 c.if-is_at_newest.false (subst (λ (gate : NextGate). IsAtNewest c.args.newest gate) (sym c.gate.ensures) at))
    end (subst (λ (o : Option Batch). ReportsNext mid new (Ok o) known) c.in-None.is knows)

pub loop-preserved : goal.loop-preserved
loop-preserved g c =
    let mid = c.loop.reader.gate in
    let new = c.next_batch.new.self.gate in
    let batch = c.in-Some.batch in
    let known = g.D.Disk.known c.args.disk.now in
    let next = at-some (IsNextBatch mid new) c.in_ok-next_batch.field-0 batch c.in-Some.is c.in_ok-next_batch.ensures.batch in
    let fits = at-some (λ b. All (TxnFits mid.catalogue) b.txns) c.in_ok-next_batch.field-0 batch c.in-Some.is c.in_ok-next_batch.ensures.fits in
    let knows = subst (λ (t : Option DiskHistory). ReportsNext mid new (Ok c.in_ok-next_batch.field-0) t) c.loop.invariant.same c.in_ok-next_batch.ensures.reads_on in
    record {
      seeks = seeks-more known c.args.newest c.args.reader.now.gate mid new batch c.loop.invariant.seeks
          (λ at. not-passed c.is_at_newest.result c.is_at_newest.ensures.1 c.if-is_at_newest.false (subst (λ (gate : NextGate). IsAtNewest c.args.newest gate) (sym c.gate.ensures) at))
          next fits (subst (λ (o : Option Batch). ReportsNext mid new (Ok o) known) c.in-Some.is knows);
      counted = omega (arith, c.loop.invariant.counted, more-txns mid new batch next);
      same = c.in_ok-next_batch.ensures.same ∙ c.loop.invariant.same;
      quiet = c.in_ok-next_batch.ensures.kept (no-error _ _) ∙ c.loop.invariant.quiet;
    }
