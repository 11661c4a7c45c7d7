-- The transactions are those of the test, and what they end with is in the summary.
use Rattle.std.proofs.Common.{ℕ, List, arith, ap, length, sym, subst, ◌∙◌}
use Rattle.std.proofs.lemmas.Result.{err_from_is_err_and}
use Rattle.std.specs.FinMap.{empty}
use Rattle.pac_ops.specs.declared.batch.Batch.{Batch}
use Rattle.pac_ops.specs.declared.transaction.Txn.{Txn}
use Rattle.pac_types.specs.Typing.{CatalogueState}
use Rattle.pac_types.specs.Execution.{serial}
use Rattle.pac_restore.specs.Batches.{RunOn, txns_in}
use Rattle.pac_restore.specs.Batches.{FitBatches}
use Rattle.pac_stress.specs.BankCatalogue.{bank_catalogue}
use Rattle.pac_stress.specs.StressBatches.{stress_batches}
use Rattle.pac_stress.specs.Summary.{summary}
use Rattle.pac_stress.specs.Stressed.{GivesNoSummary, HavePieces}
use Rattle.pac_stress.proofs.BankFits.{stress-fits}
use Rattle.pac_stress.proofs.BankTyping.{bank-has}
use Rattle.pac_stress.proofs.BatchRuns.{batches-run, in-batches, txns-long}
use Rattle.pac_stress.proofs.Finishing.{if-error, no-summary-as}
use Rattle.pac_stress.proofs.stress.stress_summary.Goals as goal

pub execute_all-requires-clause-runs : goal.execute_all-requires-clause-runs
execute_all-requires-clause-runs g c κs within = subst (RunOn 0) (sym c.in_ok-batches.ensures) (batches-run c.args.count)

pub execute_all-requires-clause-fit : goal.execute_all-requires-clause-fit
execute_all-requires-clause-fit g c κs within =
    subst (λ (cat : CatalogueState). FitBatches cat c.in_ok-batches.batches) (sym c.in_ok-catalogue.ensures.is) (subst (FitBatches bank_catalogue) (sym c.in_ok-batches.ensures) (stress-fits c.args.count))

pub execute_all-requires-clause-few : goal.execute_all-requires-clause-few
execute_all-requires-clause-few g c κs within =
    omega (arith, c.ranges.count, ap length (ap txns_in c.in_ok-batches.ensures ∙ in-batches c.args.count), txns-long 1 c.args.count)

pub returns-in_err-finished-clause-stops : goal.returns-in_err-finished-clause-stops
returns-in_err-finished-clause-stops g c =
    let p = err_from_is_err_and c.from_residual-in_err-finished.result c.from_residual-in_err-finished.ensures.1 in
    if-error (GivesNoSummary c.args.count) c.from_residual-in_err-finished.result p.0 p.1 (subst (GivesNoSummary c.args.count) (sym p.2)
    (no-summary-as c.args.count c.in_ok-catalogue.catalogue c.in_ok-batches.batches c.in_err-finished.field-0.0 c.in_ok-catalogue.ensures.is c.in_ok-batches.ensures c.in_err-finished.ensures.ends))

pub returns-clause-done : goal.returns-clause-done
returns-clause-done g c = record {
  catalogue = bank_catalogue;
  is = bank-has;
  tables = c.in_ok-finished.finished.rows.rows;
  ends = sym (ap (λ (txns : List Txn). serial bank_catalogue.procs 1 txns empty) (ap txns_in c.in_ok-batches.ensures ∙ in-batches c.args.count))
      ∙ sym (ap (λ (cat : CatalogueState). serial cat.procs 1 (txns_in c.in_ok-batches.batches) empty) c.in_ok-catalogue.ensures.is) ∙ c.in_ok-finished.ensures.ends.0;
  pieces = c.in_ok-finished.finished.pieces;
  counted = subst (λ (cat : CatalogueState). HavePieces cat (stress_batches c.args.count) c.in_ok-finished.finished.pieces) c.in_ok-catalogue.ensures.is
      (subst (λ (batches : List Batch). HavePieces c.in_ok-catalogue.catalogue batches c.in_ok-finished.finished.pieces) c.in_ok-batches.ensures c.in_ok-finished.ensures.ends.1);
  has = c.in_ok-summary_text.ensures ∙ (λ i. summary (c.from.ensures i) c.in_ok-finished.finished.pieces (c.in_ok-catalogue.ensures.is i).tables c.in_ok-finished.finished.rows.rows);
}
