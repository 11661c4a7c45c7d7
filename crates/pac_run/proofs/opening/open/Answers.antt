-- The devices are synced, and an engine is made over them.
use Rattle.std.proofs.Common.{◌∙◌, Option, refl, ap}
use Rattle.pac_outside.specs.Devices.{each}
use Rattle.pac_outside.specs.Disk.{DiskHistory}
use Rattle.pac_outside.specs.Parts.{known_reads}
use Rattle.pac_outside.specs.declared.devices.Devices.{Devices}
use Rattle.pac_outside.proofs.KnownDevices.{devices-same}
use Rattle.pac_run.proofs.OpenLemmas.{opened-before, opened-begins, opened-ready, refused-opened, settled-before}
use Rattle.pac_run.proofs.opening.open.Goals as goal

pub returns-in-Ok-clause-opened : goal.returns-in-Ok-clause-opened
returns-in-Ok-clause-opened g c =
    let e = c.in-Ok.ensures in
    opened-before (each g.D.Disk.known c.args.devices.now) _ _ (devices-same _ _ _ _ _ _ _ _ e.log e.log_b e.slot_a e.slot_b) c.engine_over.ensures.same c.engine_over.result c.engine_over.ensures.opened

pub returns-in-Ok-clause-refused : goal.returns-in-Ok-clause-refused
returns-in-Ok-clause-refused g c =
    let e = c.in-Ok.ensures in
    refused-opened (each g.D.Disk.known c.args.devices.now) _ _ (devices-same _ _ _ _ _ _ _ _ e.log e.log_b e.slot_a e.slot_b) c.engine_over.ensures.same c.args.limit c.engine_over.result c.engine_over.ensures.refused

pub returns-in-Ok-clause-ready : goal.returns-in-Ok-clause-ready
returns-in-Ok-clause-ready g c =
    let e = c.in-Ok.ensures in
    opened-ready (each g.D.Disk.known c.args.devices.now) _ _ (devices-same _ _ _ _ _ _ _ _ e.log e.log_b e.slot_a e.slot_b) c.engine_over.ensures.same g.D.Disk.known c.engine_over.new.devices refl
    c.engine_over.result c.engine_over.ensures.log c.engine_over.ensures.slot_a c.engine_over.ensures.slot_b

pub returns-in-Ok-clause-begins : goal.returns-in-Ok-clause-begins
returns-in-Ok-clause-begins g c =
    let e = c.in-Ok.ensures in
    opened-begins (each g.D.Disk.known c.args.devices.now) _ _ (devices-same _ _ _ _ _ _ _ _ e.log e.log_b e.slot_a e.slot_b) c.engine_over.ensures.same c.args.batch c.args.limit c.engine_over.result
    c.engine_over.ensures.fresh e.moments c.engine_over.ensures.opened

pub returns-in-Ok-clause-settled : goal.returns-in-Ok-clause-settled
returns-in-Ok-clause-settled g c = λ other.
    let e = c.in-Ok.ensures in
    settled-before (each g.D.Disk.known c.args.devices.now) _ _ (devices-same _ _ _ _ _ _ _ _ e.log e.log_b e.slot_a e.slot_b) c.engine_over.ensures.same

pub returns-in-Ok-clause-seen : goal.returns-in-Ok-clause-seen
returns-in-Ok-clause-seen g c = ap (λ (known : Devices (Option DiskHistory)). known_reads known) c.engine_over.ensures.same ∙ c.in-Ok.ensures.seen
