-- With what the execution of what is stored ends.
use Rattle.std.proofs.Common.{◌≡◌, ◌∙◌, ℕ, ◌+◌, List, length, Option, Result, Ok, Err, sym, subst}
use Rattle.std.specs.Prelude.{IfErr}
use Rattle.pac_value.specs.State.{Tables}
use Rattle.pac_ops.specs.declared.batch.Batch.{Batch}
use Rattle.pac_ops.specs.declared.note.Note.{Note}
use Rattle.pac_outside.specs.Disk.{DiskHistory}
use Rattle.pac_outside.specs.declared.devices.Devices.{Devices}
use Rattle.pac_types.specs.Typing.{CatalogueState}
use Rattle.pac_log.specs.declared.position.NextGate.{NextGate}
use Rattle.pac_check.specs.declared.slots.Slots.{Slots}
use Rattle.pac_check.specs.SlotStates.{newest_of, saved_txns}
use Rattle.pac_store.specs.Images.{Images, IfImagesKnown}
use Rattle.pac_store.specs.Stored.{IsStored, Stored}
use Rattle.pac_store.proofs.ImageLemmas.{images-then}
use Rattle.pac_restore.specs.declared.errors.LoadError.{LoadError}
use Rattle.pac_restore.specs.declared.errors.RecoverError.{RecoverError}
use Rattle.pac_restore.specs.declared.errors.RecoverError.TheVariants as recover
use Rattle.pac_restore.specs.declared.execution.Execution.{Execution}
use Rattle.pac_restore.specs.Batches.{txns_in, RunOn}
use Rattle.pac_restore.specs.Limits.{IsFirstOver}
use Rattle.pac_restore.specs.Outcomes.{outcome_of, HasExecuted}
use Rattle.pac_restore.specs.Refusals.{AreRefusedAs}
use Rattle.pac_restore.specs.Restoring.{stored_outcome, AbortsIn, AreRefused, IsOverIn, IsRecoveredFrom}
use Rattle.pac_restore.proofs.WholeLemmas.{whole-stored, IsReadWhole}

-- serial execution of what is stored in these images, of this catalogue, ends so after that many transactions
pub record EndsSo (catalogue : CatalogueState) (outcome : Result Tables Note) (total : ℕ) (images : Images) : Type 0 where
  pub stored : Stored
  pub is : IsStored images stored
  pub same : stored.catalogue ≡ catalogue
  pub outcome_is : stored_outcome stored ≡ outcome
  pub counted : total ≡ stored.number + length stored.rest

-- what was executed after the newest slot of a store that was read
pub ends-so : {T : Type 0} (slots : Slots) (catalogue : CatalogueState) (rows : Tables) (gate new : NextGate) (after : List Batch) (executed : Execution T) (devices : Devices (Option DiskHistory)) → IfImagesKnown (IsReadWhole slots catalogue rows gate new after) devices
    → HasExecuted catalogue rows executed after → RunOn (saved_txns (newest_of slots)) after → new.txns ≡ saved_txns (newest_of slots) + length (txns_in after) → IfImagesKnown (EndsSo catalogue (outcome_of executed) new.txns) devices
ends-so slots catalogue rows gate new after executed devices whole does runs total = images-then (IsReadWhole slots catalogue rows gate new after) (EndsSo catalogue (outcome_of executed) new.txns) (λ images is. record {
  stored = record { catalogue = catalogue; base = rows; number = saved_txns (newest_of slots); rest = txns_in after };
  is = whole-stored slots catalogue rows gate new after images is;
  same = λ i. catalogue;
  outcome_is = sym (does (saved_txns (newest_of slots)) runs);
  counted = total;
}) devices whole

-- the cause of a refusal
pub one-cause : (cause other : LoadError) → recover.Load cause ≡ recover.Load other → cause ≡ other
one-cause cause other same = cc

module _ (limit : ℕ) (devices : Devices (Option DiskHistory)) where
  pub as-refused : {A : Type 0} (result : Result A RecoverError) (error other : RecoverError) → result ≡ Err error → error ≡ other → AreRefused limit devices other → IfErr result (AreRefused limit devices)
  as-refused {A} result error other is same refused =
      subst (λ (r : Result A RecoverError). IfErr r (AreRefused limit devices)) (sym is) (subst (AreRefused limit devices) (sym same) refused)

  pub load-refused : {A : Type 0} (result : Result A RecoverError) (error : RecoverError) (cause : LoadError) → result ≡ Err error → error ≡ recover.Load cause → AreRefusedAs devices cause → IfErr result (AreRefused limit devices)
  load-refused result error cause is same refused = as-refused result error (recover.Load cause) is same refused

-- ---- what is answered of it

module _ (catalogue : CatalogueState) (outcome : Result Tables Note) (total : ℕ) (devices : Devices (Option DiskHistory)) (ends : IfImagesKnown (EndsSo catalogue outcome total) devices) where
  pub ended-aborts : (note : Note) → outcome ≡ Err note → IfImagesKnown (AbortsIn note) devices
  ended-aborts note is = images-then (EndsSo catalogue outcome total) (AbortsIn note) (λ images e. record { stored = e.stored; is = e.is; stops = e.outcome_is ∙ is }) devices ends

  pub ended-over : (held : Tables) (table : List ℕ) (rows limit : ℕ) → outcome ≡ Ok held → IsFirstOver limit catalogue.tables held table rows → IfImagesKnown (IsOverIn table rows limit) devices
  ended-over held table rows limit is over = images-then (EndsSo catalogue outcome total) (IsOverIn table rows limit) (λ images e. record {
    stored = e.stored;
    is = e.is;
    held = held;
    ends = e.outcome_is ∙ is;
    over = subst (λ (c : CatalogueState). IsFirstOver limit c.tables held table rows) (sym e.same) over;
  }) devices ends

  pub ended-recovered : (held : Tables) → outcome ≡ Ok held → IfImagesKnown (IsRecoveredFrom catalogue held total) devices
  ended-recovered held is = images-then (EndsSo catalogue outcome total) (IsRecoveredFrom catalogue held total) (λ images e. record {
    stored = e.stored;
    is = e.is;
    same = e.same;
    ends = e.outcome_is ∙ is;
    counted = e.counted;
  }) devices ends

  -- of an execution that stops, and of tables over the limit

  module _ {A : Type 0} (limit : ℕ) (result : Result A RecoverError) (answer : RecoverError) (is : result ≡ Err answer) where
    pub stopped-refused : (note : Note) → answer ≡ recover.AbortInLog note → outcome ≡ Err note → IfErr result (AreRefused limit devices)
    stopped-refused note same stops = as-refused limit devices result answer (recover.AbortInLog note) is same (ended-aborts note stops)

    pub over-refused : (name : List ℕ) (count top : ℕ) → answer ≡ recover.RowsOver name count top → top ≡ limit → (held : Tables) → outcome ≡ Ok held → IsFirstOver limit catalogue.tables held name count → IfErr result (AreRefused limit devices)
    over-refused name count top same at held done over = as-refused limit devices result answer (recover.RowsOver name count top) is same (at, ended-over held name count limit done over)
