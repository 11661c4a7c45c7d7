-- Where the segment is whole, the slot's damage is the first.
use Rattle.std.proofs.Common.{inl, inr, refl}
use Rattle.pac_restore.proofs.OpenLemmas.{only-log}
use Rattle.pac_restore.proofs.RefusalLemmas.{whole-of}
use Rattle.pac_restore.proofs.store.first_damage.Goals as goal

pub returns-in-Ok-clause-either : goal.returns-in-Ok-clause-either
returns-in-Ok-clause-either g c = inl (refl, whole-of _ _ _ _ _ c.in-Ok.ensures.read)

pub returns-clause-either : goal.returns-clause-either
returns-clause-either g c = inr (only-log _ _ _ _ c.in-Err.ensures.refused)
