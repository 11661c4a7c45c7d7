-- What a log may hold after a commit that failed.
use Rattle.std.specs.Prelude.{◌⊎◌}
use Rattle.pac_outside.specs.Disk.{DiskState, Leaves, settled}
use Rattle.pac_log.specs.declared.position.NextGate.{NextGate}
use Rattle.pac_log.specs.Places.{LogEndsAt}

-- each image that a crash may leave is that of a log that ends at this gate, or at the next one
abbrev pub LogEndsAtEither : NextGate → NextGate → DiskState → Type 0
LogEndsAtEither gate next = Leaves (λ image. LogEndsAt gate (settled image) ⊎ LogEndsAt next (settled image))
