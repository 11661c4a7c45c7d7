-- What is stored on devices that stand for a history.
use Rattle.std.specs.Prelude.{◌≡◌, ◌≤◌, ◌+◌, ℕ, List, length, take, Ok}
use Rattle.pac_value.specs.State.{Tables}
use Rattle.pac_ops.specs.declared.transaction.Txn.{Txn}
use Rattle.pac_types.specs.Execution.{serial}
use Rattle.pac_types.specs.Typing.{CatalogueState}
use Rattle.pac_store.specs.Stands.{EndsWith}
use Rattle.pac_store.specs.Stored.{Stored}

-- serial execution of what is stored, from its tables on, ends with the tables of a prefix of the history, of at least this many
-- transactions
pub record ContinuesPrefix (catalogue : CatalogueState) (history : List Txn) (least : ℕ) (stored : Stored) : Type 0 where
  pub same : stored.catalogue ≡ catalogue
  pub held : Tables
  pub enough : least ≤ stored.number + length stored.rest
  pub within : stored.number + length stored.rest ≤ length history
  pub ends : EndsWith catalogue (take (stored.number + length stored.rest) history) held
  pub from_base : serial catalogue.procs (stored.number + 1) stored.rest stored.base ≡ Ok held
