-- What a slot begins with stands in the bytes that were read.
use Rattle.std.proofs.Common.{◌∙◌, sym, ap}
use Rattle.pac_check.specs.SlotStates.{front_read}
use Rattle.pac_check.proofs.FrontLemmas.{fault_known, front_known, same_damage}
use Rattle.pac_check.proofs.reading.front_of.Goals as goal

pub returns-in-Ok-clause-state : goal.returns-in-Ok-clause-state
returns-in-Ok-clause-state g c = front_known _ c.in_ok-bytes.bytes.items c.in-Ok.state c.in_ok-bytes.ensures.bytes (ap front_read (sym c.deref.ensures.value) ∙ c.in-Ok.ensures)

pub returns-clause-damaged : goal.returns-clause-damaged
returns-clause-damaged g c = λ name at kind is. same_damage _ c.args.slot name at kind c.in-Err.fault is (fault_known _ c.in_ok-bytes.bytes.items c.in-Err.fault c.in_ok-bytes.ensures.bytes (ap front_read (sym c.deref.ensures.value) ∙ c.in-Err.ensures))
