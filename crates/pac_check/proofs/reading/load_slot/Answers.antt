-- The rows that were taken stand in the device, below the head that is known; or another stands there.
use Rattle.std.proofs.Common.{◌≡◌, List, length, sym, subst, arith}
use Rattle.std.proofs.lemmas.Result.{on_ok_weaker}
use Rattle.pac_outside.specs.Disk.{IfKnown}
use Rattle.pac_value.specs.State.{Tables}
use Rattle.pac_types.specs.declared.table.Table.{Table}
use Rattle.pac_check.specs.CheckpointReading.{next_checkpoint}
use Rattle.pac_check.specs.PieceStates.{WasRead}
use Rattle.pac_check.specs.Saved.{rows_of_tables}
use Rattle.pac_check.proofs.SlotLemmas.{damaged_known, info_known, loaded_known, other_known}
use Rattle.pac_check.proofs.reading.load_slot.Goals as goal

pub returns-in-Ok-clause-loaded : goal.returns-in-Ok-clause-loaded
returns-in-Ok-clause-loaded g c =
    let tables = c.args.cat.now.tables in
    let known = g.D.Disk.known c.args.disk.now in
    let old = c.in_ok-pieces.pieces in
    let new = c.checkpoint_from.new.pieces in
    let found = c.in-Ok.ensures.read in
    let read = subst (λ k. IfKnown (λ h. WasRead h.now.seen old new (record { head = c.in-Ok.head; tables = found.0 }) (next_checkpoint tables)) k) c.open.ensures.same
    (subst (λ (ts : List Table). IfKnown (λ h. WasRead h.now.seen old new (record { head = c.in-Ok.head; tables = found.0 }) (next_checkpoint ts)) (g.D.Disk.known c.open.new.disk)) c.tables.ensures.value found.2) in
    let held = g.R.Rows.held c.checkpoint_from.new.taker in
    let taken = found.1 c.requires.empty in
    let rows = subst (λ (ts : List Table). rows_of_tables held (length ts) ≡ found.0) c.tables.ensures.value
    (subst (λ (h : Tables). rows_of_tables h (length c.tables.result.now) ≡ found.0) (sym taken.1) taken.2.rows) in
    on_ok_weaker c.test_info.result (λ same. loaded_known tables (omega (arith, c.tables.ensures.few)) known old new c.in-Ok.head found.0 held c.in_ok-pieces.ensures.place rows (g.met.D.Disk.seen_are_bytes c.args.disk.now) read) c.test_info.ensures.same

pub returns-in-Ok-clause-same_info : goal.returns-in-Ok-clause-same_info
returns-in-Ok-clause-same_info g c =
    let tables = c.args.cat.now.tables in
    let old = c.in_ok-pieces.pieces in
    let new = c.checkpoint_from.new.pieces in
    let found = c.in-Ok.ensures.read in
    let read = subst (λ k. IfKnown (λ h. WasRead h.now.seen old new (record { head = c.in-Ok.head; tables = found.0 }) (next_checkpoint tables)) k) c.open.ensures.same
    (subst (λ (ts : List Table). IfKnown (λ h. WasRead h.now.seen old new (record { head = c.in-Ok.head; tables = found.0 }) (next_checkpoint ts)) (g.D.Disk.known c.open.new.disk)) c.tables.ensures.value found.2) in
    on_ok_weaker c.test_info.result (λ same. info_known tables (omega (arith, c.tables.ensures.few)) (g.D.Disk.known c.args.disk.now) old new c.in-Ok.head found.0 c.args.info.now.slot c.args.info.now c.in_ok-pieces.ensures.place same read) c.test_info.ensures.same

pub returns-in-Ok-clause-damaged : goal.returns-in-Ok-clause-damaged
returns-in-Ok-clause-damaged g c = λ name at kind is.
    let tables = c.args.cat.now.tables in
    let old = c.in_ok-pieces.pieces in
    let new = c.checkpoint_from.new.pieces in
    let found = c.in-Ok.ensures.read in
    let read = subst (λ k. IfKnown (λ h. WasRead h.now.seen old new (record { head = c.in-Ok.head; tables = found.0 }) (next_checkpoint tables)) k) c.open.ensures.same
    (subst (λ (ts : List Table). IfKnown (λ h. WasRead h.now.seen old new (record { head = c.in-Ok.head; tables = found.0 }) (next_checkpoint ts)) (g.D.Disk.known c.open.new.disk)) c.tables.ensures.value found.2) in
    damaged_known c.test_info.result c.args.info.now.slot c.test_info.ensures.cause name at kind is
    (λ other. other_known tables (omega (arith, c.tables.ensures.few)) (g.D.Disk.known c.args.disk.now) old new c.in-Ok.head found.0 c.args.info.now.slot c.args.info.now c.in_ok-pieces.ensures.place other read) c.test_info.ensures.other
