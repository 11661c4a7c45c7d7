-- Calls of one of a store's devices, while the others stand still.
use Rattle.std.proofs.Common.{◌≡◌, ℕ, List, Option, refl, sym, subst}
use Rattle.pac_outside.specs.Disk.{DiskState, IsImage}
use Rattle.pac_outside.specs.declared.devices.Devices.{Devices}
use Rattle.pac_outside.specs.declared.devices.LogName.{LogName}
use Rattle.pac_outside.specs.declared.devices.LogName.TheVariants.{Log, LogB}
use Rattle.pac_outside.specs.Devices.{each, log_at, log_named, with_device}
use Rattle.pac_outside.specs.GateByte.{OneImage}
use Rattle.pac_outside.proofs.Images.{one_image}

pub image-of : (P : List ℕ → Type 0) (state : DiskState) → OneImage P state → (image : List ℕ) → IsImage state image → image ≡ state.seen
image-of P state one image is = one_image state.seen image (subst (λ (s : DiskState). IsImage s image) one.one is)

pub image-there : (P : List ℕ → Type 0) (state : DiskState) → OneImage P state → (image : List ℕ) → IsImage state image → P image
image-there P state one image is = subst P (sym (image-of P state one image is)) one.has

-- ---- a log device that is put in its place

module _ {D : Type 0} where
  pub put-log : (name : LogName) (device : D) (devices : Devices D) → log_at name (with_device (log_named name) device devices) ≡ device
  put-log Log device devices = refl
  put-log LogB device devices = refl

  pub put-a : (name : LogName) (device : D) (devices : Devices D) → (with_device (log_named name) device devices).slot_a ≡ devices.slot_a
  put-a Log device devices = refl
  put-a LogB device devices = refl

  pub put-b : (name : LogName) (device : D) (devices : Devices D) → (with_device (log_named name) device devices).slot_b ≡ devices.slot_b
  put-b Log device devices = refl
  put-b LogB device devices = refl

  -- what is seen of the devices then
  pub put-each : {A : Type 0} (see : D → A) (name : LogName) (device : D) (devices : Devices D) → each see (with_device (log_named name) device devices) ≡ with_device (log_named name) (see device) (each see devices)
  put-each see Log device devices = refl
  put-each see LogB device devices = refl

  pub log-each : {A : Type 0} (see : D → A) (name : LogName) (devices : Devices D) → log_at name (each see devices) ≡ see (log_at name devices)
  log-each see Log devices = refl
  log-each see LogB devices = refl
