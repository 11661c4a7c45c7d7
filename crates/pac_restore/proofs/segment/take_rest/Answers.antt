-- Batch after batch is read and handed on.
use Rattle.std.proofs.Common.{◌∙◌, Ok, Err, Option, ap, refl, subst, arith}
use Rattle.std.proofs.lemmas.Result.{err_from_is_err_and}
use Rattle.std.specs.List.{All}
use Rattle.pac_ops.specs.declared.batch.Batch.{Batch}
use Rattle.pac_outside.specs.Disk.{DiskHistory}
use Rattle.pac_types.specs.Fits.{TxnFits}
use Rattle.pac_log.specs.declared.errors.LogError.{LogError}
use Rattle.pac_log.specs.declared.errors.LogError.TheVariants as error
use Rattle.pac_log.specs.declared.reader.ReaderParts.{ReaderParts}
use Rattle.pac_log.specs.Reading.{IsNextBatch}
use Rattle.pac_restore.proofs.CauseLemmas.{at-some, no-error, the-cause}
use Rattle.pac_restore.proofs.ReadLemmas.{ReportsNext, more-txns, on-damage}
use Rattle.pac_restore.proofs.TakenLemmas.{taken-all, takes-more, takes-none}
use Rattle.pac_restore.proofs.segment.take_rest.Goals as goal

pub loop-init : goal.loop-init
loop-init g c = record {
  takes = takes-none (g.D.Disk.known c.args.disk.now) c.args.reader.now.gate (g.S.BatchSink.took c.args.sink c.args.sink) c.requires.begins;
  may = c.requires.takes;
  counted = omega arith;
  same = refl;
  quiet = refl;
}

pub returns-in_err-next_batch-clause-damaged : goal.returns-in_err-next_batch-clause-damaged
returns-in_err-next_batch-clause-damaged g c = λ at kind is header before.
    let r = c.from_residual in
    let p = err_from_is_err_and r.result r.ensures.1 in
    let old = c.args.reader.now.gate in
    let mid = c.loop.reader.gate in
    let new = c.next_batch.new.self.gate in
    let known = g.D.Disk.known c.args.disk.now in
    let cause = the-cause r.result p.0 c.in_err-next_batch.field-0.0 (error.Damaged at kind) p.1 p.2 is in
    let knows = subst (λ (t : Option DiskHistory). ReportsNext mid new (Err c.in_err-next_batch.field-0.0) t) c.loop.invariant.same c.in_err-next_batch.ensures.reads_on in
    on-damage header before old mid new c.loop.invariant.takes.batches at kind known c.loop.invariant.takes.read.catalogue (c.loop.invariant.takes.reads header before) (subst (λ (e : LogError). ReportsNext mid new (Err e) known) cause knows)

pub returns-in-None-clause-taken : goal.returns-in-None-clause-taken
returns-in-None-clause-taken g c =
    let mid = c.loop.reader.gate in
    let new = c.next_batch.new.self.gate in
    let known = g.D.Disk.known c.args.disk.now in
    let knows = subst (λ (t : Option DiskHistory). ReportsNext mid new (Ok c.in_ok-next_batch.field-0) t) c.loop.invariant.same c.in_ok-next_batch.ensures.reads_on in
    let end = ap (λ (p : ReaderParts). p.gate) (c.in_ok-next_batch.ensures.end (ap (λ (o : Option Batch). Ok o) c.in-None.is)) in
    taken-all known c.args.reader.now.gate mid new _ c.loop.invariant.takes end (subst (λ (o : Option Batch). ReportsNext mid new (Ok o) known) c.in-None.is knows)

pub returns-in-None-clause-end : goal.returns-in-None-clause-end
returns-in-None-clause-end g c = ap (λ (p : ReaderParts). p.is_at_end) (c.in_ok-next_batch.ensures.end (ap (λ (o : Option Batch). Ok o) c.in-None.is))

pub loop-preserved : goal.loop-preserved
loop-preserved g c =
    let old = c.args.reader.now.gate in
    let mid = c.loop.reader.gate in
    let new = c.next_batch.new.self.gate in
    let batch = c.in-Some.batch in
    let known = g.D.Disk.known c.args.disk.now in
    let next = at-some (IsNextBatch mid new) c.in_ok-next_batch.field-0 batch c.in-Some.is c.in_ok-next_batch.ensures.batch in
    let fits = at-some (λ b. All (TxnFits mid.catalogue) b.txns) c.in_ok-next_batch.field-0 batch c.in-Some.is c.in_ok-next_batch.ensures.fits in
    let knows = subst (λ (t : Option DiskHistory). ReportsNext mid new (Ok c.in_ok-next_batch.field-0) t) c.loop.invariant.same c.in_ok-next_batch.ensures.reads_on in
    record {
      takes = takes-more known old mid new _ _ batch c.loop.invariant.takes (λ taken is. c.in_ok-taking-in-Some.ensures.took c.args.sink taken is) next fits (subst (λ (o : Option Batch). ReportsNext mid new (Ok o) known) c.in-Some.is knows);
      may = c.in_ok-taking-in-Some.ensures.takes old.catalogue c.loop.invariant.may;
      counted = omega (arith, c.loop.invariant.counted, more-txns mid new batch next);
      same = c.in_ok-next_batch.ensures.same ∙ c.loop.invariant.same;
      quiet = c.in_ok-next_batch.ensures.kept (no-error _ _) ∙ c.loop.invariant.quiet;
    }
