-- What is recovered of a history.
use Rattle.std.specs.Prelude.{◌≡◌, ◌≤◌, ℕ, List, length, take}
use Rattle.pac_value.specs.State.{Tables}
use Rattle.pac_ops.specs.declared.transaction.Txn.{Txn}
use Rattle.pac_types.specs.Typing.{CatalogueState}
use Rattle.pac_store.specs.Stands.{EndsWith}
use Rattle.pac_restore.specs.Limits.{IsFirstOver}

-- the catalogue is the history's, and the tables are those after its first transactions, this many, which are at least the least
pub record IsRecoveredPrefix (catalogue : CatalogueState) (history : List Txn) (least : ℕ) (found : CatalogueState) (tables : Tables) (txns : ℕ) : Type 0 where
  pub same : found ≡ catalogue
  pub enough : least ≤ txns
  pub within : txns ≤ length history
  pub ends : EndsWith catalogue (take txns history) tables

-- the first table over the limit, after some prefix of the history of at least this many transactions, has this name and this
-- many rows
pub record IsPrefixOverLimit (catalogue : CatalogueState) (history : List Txn) (least : ℕ) (table : List ℕ) (rows limit : ℕ) : Type 0 where
  pub count : ℕ
  pub held : Tables
  pub enough : least ≤ count
  pub within : count ≤ length history
  pub ends : EndsWith catalogue (take count history) held
  pub over : IsFirstOver limit catalogue.tables held table rows
