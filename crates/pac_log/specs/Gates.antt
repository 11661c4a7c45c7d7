-- The gate of a log that comes next.
use Rattle.std.specs.Prelude.{◌≤◌, ◌<◌, ◌+◌, ◌*◌, ◌^◌, ℕ, length}
use Rattle.pac_types.specs.Accepted.{IsAccepted}
use Rattle.pac_log.specs.declared.header.HeaderForm.TheVariants.{Later}
use Rattle.pac_log.specs.declared.limits.TheConstants.{MAX_BASE}
use Rattle.pac_log.specs.declared.position.NextGate.{NextGate}
use Rattle.pac_log.specs.Logs.{base_of, header_bytes, header_with}

-- the header's text has the catalogue, few transactions came before the log's, and each of the log's before the gate took two bytes or more
pub record IsWellFormedGate (gate : NextGate) : Type 0 where
  pub accepted : IsAccepted gate.header.text gate.catalogue
  pub base : base_of gate.header ≤ MAX_BASE
  pub begun : base_of gate.header ≤ gate.txns
  pub counted : 2 * gate.txns ≤ gate.place + 2 * base_of gate.header
  pub inside : gate.place < 2 ^ 64

-- after that many transactions and that many bytes more
abbrev pub gate_after : ℕ → ℕ → NextGate → NextGate
gate_after txns len gate = record gate { place = gate.place + len; txns = gate.txns + txns }

-- the first gate of a log with the header of this one
abbrev pub first_gate : NextGate → NextGate
first_gate gate = record gate { place = length (header_bytes gate.header); txns = base_of gate.header }

-- the first gate of the segment that comes after the log up to this gate
abbrev pub next_segment : NextGate → NextGate
next_segment gate = first_gate (record gate { header = header_with (Later gate.txns) gate.header.text })
