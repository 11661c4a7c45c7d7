-- What a save keeps of the history that devices stand for.
use Rattle.std.specs.Prelude.{◌⊎◌, ℕ, List, length, take}
use Rattle.pac_value.specs.State.{Tables}
use Rattle.pac_ops.specs.declared.transaction.Txn.{Txn}
use Rattle.pac_outside.specs.Devices.{other_log}
use Rattle.pac_outside.specs.Disk.{DiskHistory}
use Rattle.pac_outside.specs.declared.devices.Devices.{Devices}
use Rattle.pac_types.specs.Fits.{FitTables}
use Rattle.pac_types.specs.Typing.{CatalogueState}
use Rattle.pac_log.specs.declared.header.HeaderForm.{HeaderForm}
use Rattle.pac_check.specs.declared.slots.Slots.{Slots}
use Rattle.pac_check.specs.Checkpoints.{IsCheckpoint}
use Rattle.pac_check.specs.Saved.{checkpoint_of}
use Rattle.pac_check.specs.SlotStates.{newest_among, IsAbove}
use Rattle.pac_store.specs.Images.{Images}
use Rattle.pac_store.specs.Saving.{HasBegun, KeepsBy, KnownStore, StandsStill, active_by, last_number, published_head}
use Rattle.pac_store.specs.Stands.{EndsWith}

-- what is known of the slots and of the active segment
abbrev pub known_with : Slots → HeaderForm → List (List Txn) → KnownStore
known_with slots form batches = record { a = slots.a; b = slots.b; form = form; batches = batches }

-- each image stands for the history, by the segment that was active or by the next one
abbrev pub KeepsEither : List ℕ → CatalogueState → List Txn → KnownStore → Images → Type 0
KeepsEither text catalogue history known images = KeepsBy (active_by known) text catalogue history known images ⊎ KeepsBy (other_log (active_by known)) text catalogue history known images

-- devices stand still, and the next segment has begun
abbrev pub StandsBegun : List ℕ → CatalogueState → List Txn → KnownStore → Devices DiskHistory → Type 0
StandsBegun text catalogue history known devices = StandsStill text catalogue history known devices × HasBegun text catalogue known devices

-- a checkpoint of these tables can be published once the spare slot is closed
pub record CanPublish (text : List ℕ) (catalogue : CatalogueState) (history : List Txn) (known : KnownStore) (held : Tables) : Type 0 where
  pub above : IsAbove (newest_among known.a known.b) (last_number text known)
  pub fit : FitTables catalogue.tables held
  pub form : IsCheckpoint catalogue.tables (checkpoint_of (length catalogue.tables) (published_head text known) held)
  pub ends : EndsWith catalogue (take (last_number text known) history) held
