-- A window of a log that is executed while it is read.
use Rattle.std.specs.Prelude.{◌≡◌, ◌<◌, ◌+◌, Bool, true, false, List, Option}
use Rattle.pac_value.specs.State.{Tables}
use Rattle.pac_ops.specs.declared.batch.Batch.{Batch}
use Rattle.pac_outside.specs.Disk.{DiskHistory}
use Rattle.pac_types.specs.declared.procedure.Proc.{Proc}
use Rattle.pac_types.specs.Execution.{serial}
use Rattle.pac_log.specs.declared.position.NextGate.{NextGate}
use Rattle.pac_recover.specs.FedLogs.{AreFurther, AreLast}
use Rattle.pac_restore.specs.declared.execution.Execution.{Execution}
use Rattle.pac_restore.specs.Batches.{txns_in}
use Rattle.pac_restore.specs.Outcomes.{outcome_of}
use Rattle.pac_restore.specs.Reads.{AreRead}

-- Between these gates a window was read, and executed over the tables. It is the last where the log ends with it; each other has a
-- transaction.
pub record IsExecutedWindow {T : Type 0} (known : Option DiskHistory) (procs : List Proc) (old new : NextGate) (base : Tables) (executed : Execution T) (is_last : Bool) : Type 0 where
  pub window : List Batch
  pub read : AreRead old new window
  pub outcome : outcome_of executed ≡ serial procs (old.txns + 1) (txns_in window) base
  pub further : AreFurther known old new window
  pub last : is_last ≡ true → AreLast known old new window
  pub more : is_last ≡ false → old.txns < new.txns
