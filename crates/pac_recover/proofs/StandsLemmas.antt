-- Where the devices stand for a history, recovery answers of it.
use Rattle.std.proofs.Common.{ℕ, List, Option, Some, Result, Ok, Err, sym, subst}
use Rattle.std.specs.Prelude.{IfErr, IfOk}
use Rattle.pac_ops.specs.declared.transaction.Txn.{Txn}
use Rattle.pac_outside.specs.Devices.{each}
use Rattle.pac_outside.specs.Disk.{DiskHistory}
use Rattle.pac_outside.specs.Parts.{reads_of}
use Rattle.pac_outside.specs.declared.devices.Devices.{Devices}
use Rattle.pac_types.specs.Typing.{CatalogueState}
use Rattle.pac_store.specs.Images.{Images, IfImagesKnown}
use Rattle.pac_store.specs.Stands.{StandsFor}
use Rattle.pac_store.proofs.ImageLemmas.{where-known}
use Rattle.pac_restore.specs.declared.errors.LoadError.TheVariants as load
use Rattle.pac_restore.specs.declared.errors.RecoverError.{RecoverError}
use Rattle.pac_restore.specs.declared.errors.RecoverError.TheVariants as error
use Rattle.pac_restore.specs.Prefixes.{IsPrefixOverLimit}
use Rattle.pac_restore.specs.Restoring.{AreRefused, IsRecoveredFrom}
use Rattle.pac_restore.proofs.StandsLemmas.{is-store, no-abort, no-damage, over-prefix, recovers-prefix}
use Rattle.pac_recover.specs.declared.recovery.Recovered.{Recovered}
use Rattle.pac_recover.specs.Recovering.{Recovers}

module _ (limit : ℕ) (known : Devices DiskHistory) (text : List ℕ) (catalogue : CatalogueState) (history : List Txn) (least : ℕ) where
  abbrev images : Images
  images = reads_of known

  recovers-here : (result : Result Recovered RecoverError) → IfOk result (λ recovered. IsRecoveredFrom recovered.catalogue recovered.tables.rows recovered.txns images)
      → IfErr result (AreRefused limit (each Some known)) → StandsFor text catalogue history least images → Recovers catalogue history least result
  recovers-here (Ok recovered) knows refused is = recovers-prefix text catalogue history least images is recovered.catalogue recovered.tables.rows recovered.txns knows
  recovers-here (Err (error.Load load.NoStore)) knows refused is = is-store text catalogue history least known is refused
  recovers-here (Err (error.Load (load.Damaged damage))) knows refused is = no-damage text catalogue history least known is damage refused
  recovers-here (Err (error.Load load.DiskFault)) knows refused is = tt
  recovers-here (Err (error.Load load.NoMemory)) knows refused is = tt
  recovers-here (Err (error.AbortInLog note)) knows refused is = no-abort text catalogue history least images is note refused
  recovers-here (Err (error.RowsOver table rows most)) knows refused is =
      subst (λ (n : ℕ). IsPrefixOverLimit catalogue history least table rows n) (sym refused.0) (over-prefix text catalogue history least images is table rows limit refused.1)

pub recovers : (limit : ℕ) (result : Result Recovered RecoverError) (devices : Devices (Option DiskHistory)) → IfOk result (λ recovered. IfImagesKnown (IsRecoveredFrom recovered.catalogue recovered.tables.rows recovered.txns) devices)
    → IfErr result (AreRefused limit devices) → (text : List ℕ) (catalogue : CatalogueState) (history : List Txn) (least : ℕ)
    → IfImagesKnown (λ images. StandsFor text catalogue history least images → Recovers catalogue history least result) devices
recovers limit result devices knows refused text catalogue history least = where-known Of (λ images. StandsFor text catalogue history least images → Recovers catalogue history least result)
    (λ known of. recovers-here limit known text catalogue history least result of.0 of.1) devices (knows, refused)
  where
    Of : Devices (Option DiskHistory) → Type 0
    Of d = IfOk result (λ recovered. IfImagesKnown (IsRecoveredFrom recovered.catalogue recovered.tables.rows recovered.txns) d) × IfErr result (AreRefused limit d)
