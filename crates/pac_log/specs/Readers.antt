-- Readers of a log.
use Rattle.std.specs.Prelude.{false}
use Rattle.pac_log.specs.Gates.{first_gate}
use Rattle.pac_log.specs.declared.reader.ReaderParts.{ReaderParts}

-- the same reader at the first gate, before any answer
abbrev pub at_first : ReaderParts → ReaderParts
at_first reader = record { gate = first_gate reader.gate; is_at_end = false }
