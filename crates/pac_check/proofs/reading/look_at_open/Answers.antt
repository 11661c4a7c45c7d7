-- The checkpoint that was read stands in the device.
use Rattle.std.proofs.Common.{List, subst, arith}
use Rattle.pac_outside.specs.Disk.{IfKnown}
use Rattle.pac_types.specs.declared.table.Table.{Table}
use Rattle.pac_check.specs.CheckpointReading.{next_checkpoint}
use Rattle.pac_check.specs.PieceStates.{WasRead}
use Rattle.pac_check.proofs.FrontLemmas.{some_head}
use Rattle.pac_check.proofs.SlotLemmas.{scanned_known}
use Rattle.pac_check.proofs.reading.look_at_open.Goals as goal

pub returns-in-Ok-clause-state : goal.returns-in-Ok-clause-state
returns-in-Ok-clause-state g c =
    let tables = c.args.cat.now.tables in
    let known = g.D.Disk.known c.args.disk.now in
    let old = c.in_ok-pieces.pieces in
    let new = c.checkpoint_from.new.pieces in
    let found = c.in-Ok.ensures.read in
    let read = subst (λ k. IfKnown (λ h. WasRead h.now.seen old new (record { head = c.in-Ok.field-0; tables = found.0 }) (next_checkpoint tables)) k) c.open.ensures.same
    (subst (λ (ts : List Table). IfKnown (λ h. WasRead h.now.seen old new (record { head = c.in-Ok.field-0; tables = found.0 }) (next_checkpoint ts)) (g.D.Disk.known c.open.new.disk)) c.tables.ensures.value found.2) in
    some_head tables c.in-Ok.field-0 known (scanned_known tables (omega (arith, c.tables.ensures.few)) known old new c.in-Ok.field-0 found.0 c.in_ok-pieces.ensures.place c.requires (g.met.D.Disk.seen_are_bytes c.args.disk.now) read)
