-- What is said of devices that are known is said of what a read of all of them gives.
use Rattle.std.proofs.Common.{◌≡◌, ℕ, List, Option, Some, None, Result, Err, sym, subst}
use Rattle.std.specs.Prelude.{IfErr, IfSome}
use Rattle.pac_outside.specs.Devices.{all_known, each, log_at}
use Rattle.pac_outside.specs.Disk.{DiskHistory, IfKnown}
use Rattle.pac_outside.specs.Parts.{reads_of}
use Rattle.pac_outside.specs.declared.devices.Devices.{Devices}
use Rattle.pac_outside.specs.declared.devices.LogName.{LogName}
use Rattle.pac_outside.specs.declared.devices.LogName.TheVariants.{Log, LogB}
use Rattle.pac_outside.proofs.Runs.{four}
use Rattle.pac_check.specs.declared.info.SlotName.{SlotName}
use Rattle.pac_check.specs.declared.info.SlotName.TheVariants.{A, B}
use Rattle.pac_check.specs.SlotStates.{by_slot}
use Rattle.pac_store.specs.Images.{Images, IfImagesKnown}
use Rattle.pac_store.proofs.ImageLemmas.{where-known}

-- two facts lead to a third
pub both-images : (P Q R : Images → Type 0) → ((images : Images) → P images → Q images → R images) → (devices : Devices (Option DiskHistory)) → IfImagesKnown P devices → IfImagesKnown Q devices → IfImagesKnown R devices
both-images P Q R step devices = go (all_known devices)
  where
    go : (all : Option (Devices DiskHistory)) → IfSome all (λ known. P (reads_of known)) → IfSome all (λ known. Q (reads_of known)) → IfSome all (λ known. R (reads_of known))
    go None p q = tt
    go (Some known) p q = step (reads_of known) p q

-- of one device
pub a-images : (P : List ℕ → Type 0) (devices : Devices (Option DiskHistory)) → IfKnown (λ h. P h.now.seen) devices.slot_a → IfImagesKnown (λ images. P images.slot_a) devices
a-images P devices is = where-known (λ d. IfKnown (λ h. P h.now.seen) d.slot_a) (λ images. P images.slot_a) (λ known q. q) devices is

pub b-images : (P : List ℕ → Type 0) (devices : Devices (Option DiskHistory)) → IfKnown (λ h. P h.now.seen) devices.slot_b → IfImagesKnown (λ images. P images.slot_b) devices
b-images P devices is = where-known (λ d. IfKnown (λ h. P h.now.seen) d.slot_b) (λ images. P images.slot_b) (λ known q. q) devices is

pub ab-images : (S : List ℕ → List ℕ → Type 0) (devices : Devices (Option DiskHistory)) → IfKnown (λ x. IfKnown (λ y. S x.now.seen y.now.seen) devices.slot_b) devices.slot_a → IfImagesKnown (λ images. S images.slot_a images.slot_b) devices
ab-images S devices is = where-known (λ d. IfKnown (λ x. IfKnown (λ y. S x.now.seen y.now.seen) d.slot_b) d.slot_a) (λ images. S images.slot_a images.slot_b) (λ known q. q) devices is

pub on-log : (name : LogName) (P : List ℕ → Type 0) (known : Devices DiskHistory) → IfKnown (λ h. P h.now.seen) (log_at name (each Some known)) → P (log_at name (reads_of known))
on-log Log P known is = is
on-log LogB P known is = is

pub log-images : (name : LogName) (P : List ℕ → Type 0) (devices : Devices (Option DiskHistory)) → IfKnown (λ h. P h.now.seen) (log_at name devices) → IfImagesKnown (λ images. P (log_at name images)) devices
log-images name P devices is = where-known (λ d. IfKnown (λ h. P h.now.seen) (log_at name d)) (λ images. P (log_at name images)) (on-log name P) devices is

pub on-slot : (name : SlotName) (P : List ℕ → Type 0) (known : Devices DiskHistory) → IfKnown (λ h. P h.now.seen) (by_slot name (Some known.slot_a) (Some known.slot_b)) → P (by_slot name known.slot_a.now.seen known.slot_b.now.seen)
on-slot A P known is = is
on-slot B P known is = is

-- the error of an answer has what it is said to have
pub as-refused : {T E : Type 0} (P : E → Type 0) (result : Result T E) (error : E) → result ≡ Err error → P error → IfErr result P
as-refused P result error is p = subst (λ (r : Result _ _). IfErr r P) (sym is) p

-- a log device is what it is, whatever the slots are
pub moved-log : (P : DiskHistory → Type 0) (n m : LogName) (l k a b x y : Option DiskHistory) → n ≡ m → IfKnown P (log_at n (four l k x y)) → IfKnown P (log_at m (four l k a b))
moved-log P n m l k a b x y same is = go m (subst (λ (q : LogName). IfKnown P (log_at q (four l k x y))) same is)
  where
    go : (q : LogName) → IfKnown P (log_at q (four l k x y)) → IfKnown P (log_at q (four l k a b))
    go Log is = is
    go LogB is = is

-- one fact of what is known leads to another
pub known-then : (P Q : DiskHistory → Type 0) → ((h : DiskHistory) → P h → Q h) → (known : Option DiskHistory) → IfKnown P known → IfKnown Q known
known-then P Q step None is = tt
known-then P Q step (Some h) is = step h is
