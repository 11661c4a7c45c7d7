-- What is said of each device that is known is said of what a read of all of them gives.
use Rattle.std.proofs.Common.{◌≡◌, Option, Some, None, option_map, sym, subst}
use Rattle.std.specs.Prelude.{IfSome}
use Rattle.pac_outside.specs.Devices.{IfAllKnown, OnceKnown, all_known, each}
use Rattle.pac_outside.specs.Disk.{DiskHistory}
use Rattle.pac_outside.specs.Parts.{reads_of}
use Rattle.pac_outside.specs.declared.devices.Devices.{Devices}
use Rattle.pac_outside.proofs.KnownDevices.{by-known}
use Rattle.pac_store.specs.Images.{Images, IfImagesKnown}

-- What is said of devices leads to P of what a read gives, where it does so for devices that are all known.
pub where-known : (Q : Devices (Option DiskHistory) → Type 0) (P : Images → Type 0) → ((known : Devices DiskHistory) → Q (each Some known) → P (reads_of known))
    → (devices : Devices (Option DiskHistory)) → Q devices → IfImagesKnown P devices
where-known Q P step devices = by-known (λ d. Q d → IfImagesKnown P d) devices (λ unknown holds. subst (λ (all : Option (Devices DiskHistory)). IfSome all (λ known. P (reads_of known))) (sym unknown) tt) step

-- A call of several devices says of each what it is afterwards: where all are known, R holds of what they were and are.
pub each-becomes : (become : DiskHistory → DiskHistory) (R : Devices DiskHistory → Devices DiskHistory → Type 0) (Q : Devices (Option DiskHistory) → Type 0) → ((known : Devices DiskHistory) → Q (each Some known) → R known (each become known))
    → (devices : Devices (Option DiskHistory)) → Q devices → IfAllKnown R devices (each (option_map become) devices)
each-becomes become R Q step devices = by-known (λ d. Q d → IfAllKnown R d (each (option_map become) d)) devices
    (λ unknown holds. subst (λ (all : Option (Devices DiskHistory)). OnceKnown R all (all_known (each (option_map become) devices))) (sym unknown) tt) step

-- one property leads to another
pub images-then : (P Q : Images → Type 0) → ((images : Images) → P images → Q images) → (devices : Devices (Option DiskHistory)) → IfImagesKnown P devices → IfImagesKnown Q devices
images-then P Q step devices = go (all_known devices)
  where
    go : (all : Option (Devices DiskHistory)) → IfSome all (λ known. P (reads_of known)) → IfSome all (λ known. Q (reads_of known))
    go None holds = tt
    go (Some known) holds = step (reads_of known) holds

-- what each image has, a read gives
pub images-any : (P : Images → Type 0) → ((images : Images) → P images) → (devices : Devices (Option DiskHistory)) → IfImagesKnown P devices
images-any P has devices = go (all_known devices)
  where
    go : (all : Option (Devices DiskHistory)) → IfSome all (λ known. P (reads_of known))
    go None = tt
    go (Some known) = has (reads_of known)

-- what a read of devices gives that are known
pub images-of : (P : Images → Type 0) (devices : Devices (Option DiskHistory)) (known : Devices DiskHistory) → all_known devices ≡ Some known → IfImagesKnown P devices → P (reads_of known)
images-of P devices known is = subst (λ (all : Option (Devices DiskHistory)). IfSome all (λ here. P (reads_of here))) is
