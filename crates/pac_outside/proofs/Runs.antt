-- Runs over several devices: of one device alone, one after another, and at their ends.
use Rattle.std.proofs.Common.{◌≡◌, ℕ, List, [], ◌∷◌, ◌++◌, Option, Some, None, refl, sym, ap, subst, ◌∙◌, append_assoc}
use Rattle.std.specs.List.{AllByRecursion}
use Rattle.std.proofs.lemmas.List.{append-nil}
use Rattle.pac_outside.specs.Disk.{DiskHistory, DiskState, IsImage, Leaves, LeavesAsBefore, LeavesOnly, BothKnown, becomes, states}
use Rattle.pac_outside.specs.declared.devices.Devices.{Devices}
use Rattle.pac_outside.specs.Devices.{AllLeave, RunLeaves, OnceKnown, IfAllKnown, WhichDevice, device_at, with_device}
use Rattle.pac_outside.specs.Devices.RunLeaves.{rests, steps}
use Rattle.pac_outside.specs.Devices.WhichDevice.{the_log, the_log_b, the_slot_a, the_slot_b}
use Rattle.pac_outside.specs.Runs.{LeavesIn, OneGoesOn, disk_in}
use Rattle.pac_outside.proofs.Histories.{all_weaken, same_history}

-- four devices, or what is seen of them
abbrev pub four : {D : Type 0} → D → D → D → D → Devices D
four log log_b a b = record { log = log; log_b = log_b; slot_a = a; slot_b = b }

-- one run after another
pub run_then : (P : Devices (List ℕ) → Type 0) (a b c : Devices DiskHistory) → RunLeaves P a b → RunLeaves P b c → RunLeaves P a c
run_then P a b c (rests devices here) second = second
run_then P a b c (steps which devices end next here more) second = steps which devices c next here (run_then P (with_device which (becomes next (device_at which devices)) devices) end c more second)

-- at its start a run leaves what has P
pub run_start : (P : Devices (List ℕ) → Type 0) (a b : Devices DiskHistory) → RunLeaves P a b → AllLeave P a
run_start P a b (rests devices here) = here
run_start P a b (steps which devices end next here more) = here

-- at its end a run leaves what has P
pub run_end : (P : Devices (List ℕ) → Type 0) (a b : Devices DiskHistory) → RunLeaves P a b → AllLeave P b
run_end P a b (rests devices here) = here
run_end P a b (steps which devices end next here more) = run_end P (with_device which (becomes next (device_at which devices)) devices) end more

pub weaken_run : (P Q : Devices (List ℕ) → Type 0) → ((images : Devices (List ℕ)) → P images → Q images) → (a b : Devices DiskHistory) → RunLeaves P a b → RunLeaves Q a b
weaken_run P Q weaker a b (rests devices here) = rests devices (λ images are. weaker images (here images are))
weaken_run P Q weaker a b (steps which devices end next here more) =
    steps which devices end next (λ images are. weaker images (here images are)) (weaken_run P Q weaker (with_device which (becomes next (device_at which devices)) devices) end more)

-- ---- one device is called, while the others stand still

-- what a crash leaves depends on the state that each device is in, and on no state before
leaves_now : (P : Devices (List ℕ) → Type 0) (which : WhichDevice) (devices : Devices DiskHistory) → LeavesIn P which devices (device_at which devices).now → AllLeave P devices
leaves_now P the_log devices here = λ images are. here images (record { log = are.log; log_b = are.log_b; slot_a = are.slot_a; slot_b = are.slot_b })
leaves_now P the_log_b devices here = λ images are. here images (record { log = are.log; log_b = are.log_b; slot_a = are.slot_a; slot_b = are.slot_b })
leaves_now P the_slot_a devices here = λ images are. here images (record { log = are.log; log_b = are.log_b; slot_a = are.slot_a; slot_b = are.slot_b })
leaves_now P the_slot_b devices here = λ images are. here images (record { log = are.log; log_b = are.log_b; slot_a = are.slot_a; slot_b = are.slot_b })

pub now_leaves : (P : Devices (List ℕ) → Type 0) (which : WhichDevice) (devices : Devices DiskHistory) → AllLeave P devices → LeavesIn P which devices (device_at which devices).now
now_leaves P the_log devices here = λ images are. here images (record { log = are.log; log_b = are.log_b; slot_a = are.slot_a; slot_b = are.slot_b })
now_leaves P the_log_b devices here = λ images are. here images (record { log = are.log; log_b = are.log_b; slot_a = are.slot_a; slot_b = are.slot_b })
now_leaves P the_slot_a devices here = λ images are. here images (record { log = are.log; log_b = are.log_b; slot_a = are.slot_a; slot_b = are.slot_b })
now_leaves P the_slot_b devices here = λ images are. here images (record { log = are.log; log_b = are.log_b; slot_a = are.slot_a; slot_b = are.slot_b })

-- a device that is put in its place stands there
pub put_is : {D : Type 0} (which : WhichDevice) (device : D) (devices : Devices D) → device_at which (with_device which device devices) ≡ device
put_is the_log device devices = refl
put_is the_log_b device devices = refl
put_is the_slot_a device devices = refl
put_is the_slot_b device devices = refl

-- of two that are put in a place one after another the last stands there
pub put_again : {D : Type 0} (which : WhichDevice) (device other : D) (devices : Devices D) → with_device which device (with_device which other devices) ≡ with_device which device devices
put_again the_log device other devices = refl
put_again the_log_b device other devices = refl
put_again the_slot_a device other devices = refl
put_again the_slot_b device other devices = refl

pub put_same : {D : Type 0} (which : WhichDevice) (devices : Devices D) → with_device which (device_at which devices) devices ≡ devices
put_same the_log devices = refl
put_same the_log_b devices = refl
put_same the_slot_a devices = refl
put_same the_slot_b devices = refl

module _ (P : Devices (List ℕ) → Type 0) (which : WhichDevice) where
  goes_through : (new : DiskHistory) (since : List DiskState) (devices : Devices DiskHistory) → states new ≡ states (device_at which devices) ++ since
      → LeavesIn P which devices (device_at which devices).now → AllByRecursion (LeavesIn P which devices) since → RunLeaves P devices (with_device which new devices)
  goes_through new [] devices grown here each =
      let same : device_at which devices ≡ new = same_history (device_at which devices) new (sym (append-nil (states (device_at which devices))) ∙ sym grown) in
      subst (λ (end : Devices DiskHistory). RunLeaves P devices end) (sym (put_same which devices) ∙ ap (λ (disk : DiskHistory). with_device which disk devices) same) (rests devices (leaves_now P which devices here))
  goes_through new (state ∷ since) devices grown here each =
      let next : DiskHistory = becomes state (device_at which devices) in
      let later : Devices DiskHistory = with_device which (becomes state (device_at which devices)) devices in
      let at : next ≡ device_at which later = sym (put_is which next devices) in
      let in_later : (s : DiskState) → LeavesIn P which devices s → LeavesIn P which later s = λ s. subst (λ (all : Devices DiskHistory). AllLeave P all) (sym (put_again which (disk_in s) next devices)) in
      let rest : RunLeaves P later (with_device which new later) = goes_through new since later
      (grown ∙ sym (append_assoc (states (device_at which devices)) (state ∷ []) since) ∙ ap (λ (disk : DiskHistory). states disk ++ since) at)
      (subst (λ (disk : DiskHistory). LeavesIn P which later disk.now) at (in_later state each.0))
      (all_weaken (LeavesIn P which devices) (LeavesIn P which later) in_later since each.1) in
      steps which devices (with_device which new devices) state (leaves_now P which devices here) (subst (λ (end : Devices DiskHistory). RunLeaves P later end) (put_again which new next devices) rest)

  pub one_runs : (devices : Devices DiskHistory) (new : DiskHistory) → OneGoesOn P which devices new → RunLeaves P devices (with_device which new devices)
  one_runs devices new on = goes_through new on.since devices on.grown on.each.0 on.each.1

-- what each of its states leaves of a device, beside what the others leave
among : (P : Devices (List ℕ) → Type 0) (which : WhichDevice) (devices : Devices DiskHistory) (new : DiskHistory) (Q : List ℕ → Type 0) → ((state : DiskState) → Leaves Q state → LeavesIn P which devices state)
    → LeavesOnly Q (device_at which devices) new → RunLeaves P devices (with_device which new devices)
among P which devices new Q has run = one_runs P which devices new
    (record { since = run.since; grown = run.grown; each = (has (device_at which devices).now run.first, all_weaken (Leaves Q) (LeavesIn P which devices) has run.since run.each) })

-- the images of all devices but this one, which may be any
abbrev pub OthersAre : WhichDevice → Devices DiskHistory → Devices (List ℕ) → Type 0
OthersAre the_log devices images = IsImage devices.log_b.now images.log_b × IsImage devices.slot_a.now images.slot_a × IsImage devices.slot_b.now images.slot_b
OthersAre the_log_b devices images = IsImage devices.log.now images.log × IsImage devices.slot_a.now images.slot_a × IsImage devices.slot_b.now images.slot_b
OthersAre the_slot_a devices images = IsImage devices.log.now images.log × IsImage devices.log_b.now images.log_b × IsImage devices.slot_b.now images.slot_b
OthersAre the_slot_b devices images = IsImage devices.log.now images.log × IsImage devices.log_b.now images.log_b × IsImage devices.slot_a.now images.slot_a

-- this device is called
pub device_runs : (P : Devices (List ℕ) → Type 0) (which : WhichDevice) (devices : Devices DiskHistory) (new : DiskHistory)
    → LeavesOnly (λ image. (images : Devices (List ℕ)) → OthersAre which devices images → P (with_device which image images)) (device_at which devices) new → RunLeaves P devices (with_device which new devices)
device_runs P the_log devices new run = among P the_log devices new (λ image. (images : Devices (List ℕ)) → OthersAre the_log devices images → P (with_device the_log image images))
    (λ state leaves images are. leaves images.log are.log images (are.log_b, are.slot_a, are.slot_b)) run
device_runs P the_log_b devices new run = among P the_log_b devices new (λ image. (images : Devices (List ℕ)) → OthersAre the_log_b devices images → P (with_device the_log_b image images))
    (λ state leaves images are. leaves images.log_b are.log_b images (are.log, are.slot_a, are.slot_b)) run
device_runs P the_slot_a devices new run = among P the_slot_a devices new (λ image. (images : Devices (List ℕ)) → OthersAre the_slot_a devices images → P (with_device the_slot_a image images))
    (λ state leaves images are. leaves images.slot_a are.slot_a images (are.log, are.log_b, are.slot_b)) run
device_runs P the_slot_b devices new run = among P the_slot_b devices new (λ image. (images : Devices (List ℕ)) → OthersAre the_slot_b devices images → P (with_device the_slot_b image images))
    (λ state leaves images are. leaves images.slot_b are.slot_b images (are.log, are.log_b, are.slot_a)) run

-- a sync of one device, also one that failed, leaves what it finds
pub sync_runs : (P : Devices (List ℕ) → Type 0) (which : WhichDevice) (devices : Devices DiskHistory) (new : DiskHistory)
    → AllLeave P devices → LeavesAsBefore (device_at which devices) new → RunLeaves P devices (with_device which new devices)
sync_runs P which devices new here run = among P which devices new (IsImage (device_at which devices).now) (found which) run
  where
    found : (which : WhichDevice) (state : DiskState) → Leaves (IsImage (device_at which devices).now) state → LeavesIn P which devices state
    found the_log state leaves = λ images are. here images (record { log = leaves images.log are.log; log_b = are.log_b; slot_a = are.slot_a; slot_b = are.slot_b })
    found the_log_b state leaves = λ images are. here images (record { log = are.log; log_b = leaves images.log_b are.log_b; slot_a = are.slot_a; slot_b = are.slot_b })
    found the_slot_a state leaves = λ images are. here images (record { log = are.log; log_b = are.log_b; slot_a = leaves images.slot_a are.slot_a; slot_b = are.slot_b })
    found the_slot_b state leaves = λ images are. here images (record { log = are.log; log_b = are.log_b; slot_a = are.slot_a; slot_b = leaves images.slot_b are.slot_b })

-- ---- where all devices' histories are known

-- one relation leads to another
pub knows_on : (R S : Devices DiskHistory → Devices DiskHistory → Type 0) → ((a b : Devices DiskHistory) → R a b → S a b) → (a b : Option (Devices DiskHistory)) → OnceKnown R a b → OnceKnown S a b
knows_on R S step None b known = tt
knows_on R S step (Some a) None known = absurd known
knows_on R S step (Some a) (Some b) known = step a b known

pub knows_then : (R S T : Devices DiskHistory → Devices DiskHistory → Type 0) → ((a b c : Devices DiskHistory) → R a b → S b c → T a c) → (a b c : Option (Devices DiskHistory)) → OnceKnown R a b → OnceKnown S b c → OnceKnown T a c
knows_then R S T step None b c first second = tt
knows_then R S T step (Some a) None c first second = absurd first
knows_then R S T step (Some a) (Some b) None first second = absurd second
knows_then R S T step (Some a) (Some b) (Some c) first second = step a b c first second

-- One device is called while the others stand still: what its histories have leads to what those of all have.
module _ (R : DiskHistory → DiskHistory → Type 0) (S : Devices DiskHistory → Devices DiskHistory → Type 0)
    (step : (which : WhichDevice) (devices : Devices DiskHistory) (new : DiskHistory) → R (device_at which devices) new → S devices (with_device which new devices)) where
  pub log_knows : (l n m a b : Option DiskHistory) → BothKnown R l n → IfAllKnown S (four l m a b) (four n m a b)
  log_knows None n m a b known = tt
  log_knows (Some l) n None a b known = tt
  log_knows (Some l) n (Some m) None b known = tt
  log_knows (Some l) n (Some m) (Some a) None known = tt
  log_knows (Some l) None (Some m) (Some a) (Some b) known = absurd known
  log_knows (Some l) (Some n) (Some m) (Some a) (Some b) known = step the_log (four l m a b) n known

  pub log_b_knows : (l m n a b : Option DiskHistory) → BothKnown R m n → IfAllKnown S (four l m a b) (four l n a b)
  log_b_knows None m n a b known = tt
  log_b_knows (Some l) None n a b known = tt
  log_b_knows (Some l) (Some m) n None b known = tt
  log_b_knows (Some l) (Some m) n (Some a) None known = tt
  log_b_knows (Some l) (Some m) None (Some a) (Some b) known = absurd known
  log_b_knows (Some l) (Some m) (Some n) (Some a) (Some b) known = step the_log_b (four l m a b) n known

  pub a_knows : (l m a n b : Option DiskHistory) → BothKnown R a n → IfAllKnown S (four l m a b) (four l m n b)
  a_knows None m a n b known = tt
  a_knows (Some l) None a n b known = tt
  a_knows (Some l) (Some m) None n b known = tt
  a_knows (Some l) (Some m) (Some a) n None known = tt
  a_knows (Some l) (Some m) (Some a) None (Some b) known = absurd known
  a_knows (Some l) (Some m) (Some a) (Some n) (Some b) known = step the_slot_a (four l m a b) n known

  pub b_knows : (l m a b n : Option DiskHistory) → BothKnown R b n → IfAllKnown S (four l m a b) (four l m a n)
  b_knows None m a b n known = tt
  b_knows (Some l) None a b n known = tt
  b_knows (Some l) (Some m) None b n known = tt
  b_knows (Some l) (Some m) (Some a) None n known = tt
  b_knows (Some l) (Some m) (Some a) (Some b) None known = absurd known
  b_knows (Some l) (Some m) (Some a) (Some b) (Some n) known = step the_slot_b (four l m a b) n known
