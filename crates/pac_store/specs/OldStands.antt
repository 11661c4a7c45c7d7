-- What stores of three devices stood for, before the log had segments.
use Rattle.std.specs.Prelude.{◌≡◌, ◌≤◌, ◌⊎◌, ℕ, List, [], ◌++◌, length, take}
use Rattle.pac_value.specs.State.{Tables}
use Rattle.pac_ops.specs.declared.transaction.Txn.{Txn}
use Rattle.pac_outside.specs.GateByte.{IsShut}
use Rattle.pac_types.specs.Fits.{FitTables}
use Rattle.pac_types.specs.Typing.{CatalogueState}
use Rattle.pac_log.specs.declared.header.HeaderForm.TheVariants.{First}
use Rattle.pac_log.specs.Logs.{header_with, HoldsLog, HasGate, all_txns}
use Rattle.pac_check.specs.declared.head.Head.{Head}
use Rattle.pac_check.specs.declared.head.SlotForm.TheVariants as form
use Rattle.pac_check.specs.SlotStates.{HoldsRows}
use Rattle.pac_store.specs.Stands.{EndsWith, IsHistory}

-- a slot is open with a checkpoint of the first form, of a prefix of the one log
pub record HeldPrefix (text : List ℕ) (catalogue : CatalogueState) (batches : List (List Txn)) (image : List ℕ) : Type 0 where
  pub head : Head
  pub first : head.form ≡ form.First
  pub held : Tables
  pub fit : FitTables catalogue.tables held
  pub rows : HoldsRows catalogue.tables head held image
  pub gate : HasGate (header_with First text) batches head.place head.txns
  pub ends : EndsWith catalogue (take head.txns (all_txns batches)) held

abbrev pub WasShutOrPrefix : List ℕ → CatalogueState → List (List Txn) → List ℕ → Type 0
WasShutOrPrefix text catalogue batches image = IsShut [] image ⊎ HeldPrefix text catalogue batches image

-- a log of the first form and two slots stood for a history
pub record StoodFor (text : List ℕ) (catalogue : CatalogueState) (history : List Txn) (least : ℕ) (log a b : List ℕ) : Type 0 where
  pub executes : IsHistory catalogue history
  pub batches : List (List Txn)
  pub holds : HoldsLog (header_with First text) catalogue batches log
  pub later : List Txn
  pub prefix : history ≡ all_txns batches ++ later
  pub enough : least ≤ length (all_txns batches)
  pub slot_a : WasShutOrPrefix text catalogue batches a
  pub slot_b : WasShutOrPrefix text catalogue batches b
