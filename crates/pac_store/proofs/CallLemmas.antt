-- One device is called, while the others stand still.
use Rattle.std.proofs.Common.{ℕ, List}
use Rattle.pac_outside.specs.Devices.{RunLeaves, WhichDevice, device_at, with_device}
use Rattle.pac_outside.specs.Disk.{DiskHistory, DiskState, Leaves, LeavesOnly}
use Rattle.pac_outside.specs.Runs.{LeavesIn}
use Rattle.pac_outside.specs.declared.devices.Devices.{Devices}
use Rattle.pac_outside.proofs.Histories.{all_weaken}
use Rattle.pac_outside.proofs.Runs.{one_runs}
use Rattle.pac_store.specs.Images.{Images}

-- what each of its states leaves of it, beside what the others leave, is what a crash leaves at each moment
pub device-runs : (P : Images → Type 0) (which : WhichDevice) (devices : Devices DiskHistory) (new : DiskHistory) (Q : List ℕ → Type 0) → ((state : DiskState) → Leaves Q state → LeavesIn P which devices state)
    → LeavesOnly Q (device_at which devices) new → RunLeaves P devices (with_device which new devices)
device-runs P which devices new Q has run = one_runs P which devices new
    (record { since = run.since; grown = run.grown; each = (has (device_at which devices).now run.first, all_weaken (Leaves Q) (LeavesIn P which devices) has run.since run.each) })
