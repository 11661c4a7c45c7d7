-- What a disk in memory holds at one moment.
use Rattle.std.specs.Prelude.{option_map, unwrap_or}
use Rattle.pac_outside.specs.Disk.{DiskState}
use Rattle.pac_outside.specs.declared.moment.Moment.{Moment}

-- the state of the disk at this moment; no bytes of a sync are kept where they are those that a read gives
abbrev pub moment_state : Moment → DiskState
moment_state moment = record { synced = unwrap_or (option_map (λ bytes. bytes.items) moment.synced) moment.seen.items; written = moment.written.items; seen = moment.seen.items }
