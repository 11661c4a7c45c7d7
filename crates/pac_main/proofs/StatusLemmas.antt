-- The stops of each status.
use Rattle.std.proofs.Common.{◌≡◌, ◌⊎◌, ℕ, zero, suc, List, inl, inr, refl, subst}
use Rattle.pac_ops.specs.declared.note.Note.{Note}
use Rattle.pac_script.specs.declared.script_fault.ScriptFault.{ScriptFault}
use Rattle.pac_store.specs.declared.device.DeviceName.{DeviceName}
use Rattle.pac_restore.specs.declared.errors.Damage.{Damage}
use Rattle.pac_tuple.specs.declared.fault.ImageFault.{ImageFault}
use Rattle.pac_main.specs.Stop.{status_of}
use Rattle.pac_main.specs.declared.stop.Stop.{Stop}
use Rattle.pac_main.specs.declared.stop.Stop.TheVariants.{Usage, Script as ScriptStop, NotEmpty, NoStore, Damaged, Aborted, RowsOver, InputFault, OutputFault, DiskFault, NoMemory, LogFull, TooLong, TooLarge, Image}

pub record AnAbort (stop : Stop) : Type 0 where
  pub note : Note
  pub is : stop ≡ Aborted note

pub record ARefusal (stop : Stop) : Type 0 where
  pub fault : ScriptFault
  pub is : stop ≡ ScriptStop fault

pub record AnImage (stop : Stop) : Type 0 where
  pub fault : ImageFault
  pub is : stop ≡ Image fault

pub record AnOver (stop : Stop) : Type 0 where
  pub name : List ℕ
  pub rows : ℕ
  pub most : ℕ
  pub is : stop ≡ RowsOver name rows most

pub record AFullDevice (stop : Stop) : Type 0 where
  pub device : DeviceName
  pub length : ℕ
  pub is : stop ≡ NotEmpty device length

pub record ADamage (stop : Stop) : Type 0 where
  pub damage : Damage
  pub is : stop ≡ Damaged damage

pub record AFullLog (stop : Stop) : Type 0 where
  pub need : ℕ
  pub is : stop ≡ LogFull need

pub record ALargeSlot (stop : Stop) : Type 0 where
  pub bytes : ℕ
  pub is : stop ≡ TooLarge bytes

-- why devices are refused
abbrev pub ADeviceRefusal : Stop → Type 0
ADeviceRefusal stop = AFullDevice stop ⊎ ((stop ≡ NoStore) ⊎ ADamage stop)

-- this where the number is 0, else what is said of the number below
abbrev pub or_next : Type 0 → (ℕ → Type 0) → ℕ → Type 0
or_next P more zero = P
or_next P more (suc number) = more number

-- what a stop of each status is, from 0 on
abbrev IsOfStatus : Stop → ℕ → Type 0
IsOfStatus s = or_next ⊥ (or_next (s ≡ Usage) (or_next (ARefusal s ⊎ AnImage s) (or_next (ADeviceRefusal s) (or_next (AnAbort s) (or_next (AnOver s) (or_next (s ≡ InputFault) (or_next (s ≡ OutputFault)
    (or_next (s ≡ DiskFault) (or_next (s ≡ NoMemory) (or_next (AFullLog s) (or_next (s ≡ TooLong) (or_next (ALargeSlot s) (λ _. ⊥)))))))))))))

of_its_status : (stop : Stop) → IsOfStatus stop (status_of stop)
of_its_status Usage = refl
of_its_status (ScriptStop fault) = inl (record { fault = fault; is = refl })
of_its_status (NotEmpty device length) = inl (record { device = device; length = length; is = refl })
of_its_status NoStore = inr (inl refl)
of_its_status (Damaged damage) = inr (inr (record { damage = damage; is = refl }))
of_its_status (Aborted note) = record { note = note; is = refl }
of_its_status (RowsOver name rows most) = record { name = name; rows = rows; most = most; is = refl }
of_its_status InputFault = refl
of_its_status OutputFault = refl
of_its_status DiskFault = refl
of_its_status NoMemory = refl
of_its_status (LogFull need) = record { need = need; is = refl }
of_its_status TooLong = refl
of_its_status (TooLarge bytes) = record { bytes = bytes; is = refl }
of_its_status (Image fault) = inr (record { fault = fault; is = refl })

module _ (stop : Stop) where
  of_status : (status : ℕ) → status_of stop ≡ status → IsOfStatus stop status
  of_status status is = subst (λ (n : ℕ). IsOfStatus stop n) is (of_its_status stop)

  pub never_done : status_of stop ≡ 0 → ⊥
  never_done = of_status 0

  pub unread_of : status_of stop ≡ 2 → ARefusal stop ⊎ AnImage stop
  unread_of = of_status 2

  -- the same where a fault of after-images is no cause
  pub refused_of : (P : Stop → Type 0) → ((fault : ImageFault) → P (Image fault) → ⊥) → P stop → status_of stop ≡ 2 → ARefusal stop
  refused_of P none cause two = by (unread_of two)
    where
      by : ARefusal stop ⊎ AnImage stop → ARefusal stop
      by (inl refusal) = refusal
      by (inr image) = absurd (none image.fault (subst P image.is cause))

  pub device_of : status_of stop ≡ 3 → ADeviceRefusal stop
  device_of = of_status 3

  pub aborted_of : status_of stop ≡ 4 → AnAbort stop
  aborted_of = of_status 4

  pub over_of : status_of stop ≡ 5 → AnOver stop
  over_of = of_status 5

  pub input_of : status_of stop ≡ 6 → stop ≡ InputFault
  input_of = of_status 6

  pub output_of : status_of stop ≡ 7 → stop ≡ OutputFault
  output_of = of_status 7

  pub disk_of : status_of stop ≡ 8 → stop ≡ DiskFault
  disk_of = of_status 8

  pub long_of : status_of stop ≡ 11 → stop ≡ TooLong
  long_of = of_status 11
