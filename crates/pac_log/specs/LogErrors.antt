-- Faults of the device as those of a log.
use Rattle.pac_outside.specs.declared.failed.ReadError.{ReadError as PieceError}
use Rattle.pac_outside.specs.declared.failed.ReadError.TheVariants as piece
use Rattle.pac_log.specs.declared.errors.LogError.{LogError}
use Rattle.pac_log.specs.declared.errors.LogError.TheVariants as error

-- why a piece isn't read, as why a log isn't
abbrev pub as_read_error : PieceError → LogError
as_read_error piece.Failed = error.DiskFault
as_read_error piece.NoMemory = error.NoMemory
