-- One batch more is recorded; or a transaction of it aborts, and so does serial execution.
use Rattle.std.proofs.Common.{◌≡◌, ◌∙◌, Err, sym, ap}
use Rattle.std.proofs.lemmas.Result.{err_from_is_err_and}
use Rattle.pac_serial.specs.declared.serial.AllError.{AllError}
use Rattle.pac_serial.specs.declared.serial.AllError.TheVariants.{Abort as AbortOf}
use Rattle.pac_main.proofs.InputLemmas.{err_is}
use Rattle.pac_main.proofs.RecordingLemmas.{recorded-more, recording-aborts}
use Rattle.pac_main.proofs.recording.record_batches.Goals as goal

pub loop-batch-preserved : goal.loop-batch-preserved
loop-batch-preserved c =
    let made = c.in_ok-record_batch.ensures in
    record {
      recorded = recorded-more c.args.catalogue.now.procs c.args.catalogue.now.tables c.args.batches.now c.loop-batch.batch-index c.batch-item.result c.loop-batch-test.true c.batch-item.is c.requires.runs
          c.loop-batch.rows.rows c.record_batch.new.rows.rows c.args.out.now.items c.loop-batch.out.items c.record_batch.new.out.items c.loop-batch.invariant.recorded made.ends made.bytes made.lists;
      fits = made.fits;
      tables = made.tables ∙ c.loop-batch.invariant.tables;
    }

pub returns-in_err-record_batch-clause-aborts : goal.returns-in_err-record_batch-clause-aborts
returns-in_err-record_batch-clause-aborts c = λ note is.
    let p = err_from_is_err_and c.from_residual-in_err-record_batch.result c.from_residual-in_err-record_batch.ensures.1 in
    let same : c.in_err-record_batch.field-0.0 ≡ AbortOf note = sym p.2 ∙ err_is c.from_residual-in_err-record_batch.result p.0 (AbortOf note) p.1 is in
    recording-aborts c.args.catalogue.now.procs c.args.catalogue.now.tables c.args.batches.now c.loop-batch.batch-index c.batch-item.result c.loop-batch-test.true c.batch-item.is c.requires.runs
    c.loop-batch.rows.rows c.args.out.now.items c.loop-batch.out.items note c.loop-batch.invariant.recorded (c.in_err-record_batch.ensures.aborts note (ap (λ (error : AllError). Err error) same))
