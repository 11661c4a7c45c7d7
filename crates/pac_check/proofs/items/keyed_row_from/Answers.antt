-- What is read in the bytes that are held is read on the device.
use Rattle.std.proofs.Common.{◌∙◌, ◌≤◌, List, ℕ, length, sym, subst, Bor, Option}
use Rattle.std.specs.Option.{option_map}
use Rattle.pac_base.specs.declared.refusal.Refusal.{Refusal}
use Rattle.pac_base.specs.Refusals.{Fails}
use Rattle.pac_value.specs.declared.values.Key.{Key}
use Rattle.pac_types.specs.declared.table.Table.{Table}
use Rattle.pac_bytes.specs.Reading.{from}
use Rattle.pac_check.specs.declared.damage.SlotFault.{SlotFault}
use Rattle.pac_check.specs.CheckpointReading.{next_row}
use Rattle.pac_check.proofs.RowAlikeLemmas.{row_room}
use Rattle.pac_check.proofs.PieceLemmas.{row_looks, row_few, end_within, fault_within, read_known, fault_known, stop_same}
use Rattle.pac_check.proofs.items.keyed_row_from.Goals as goal

-- the key before
abbrev key_of : Option (Bor Key) → Option Key
key_of before = option_map (λ (key : Bor Key). key.now) before

pub pass-requires : goal.pass-requires
pass-requires g c =
    subst (λ (held : List ℕ). c.in-Ok.end ≤ length held) c.held.ensures
    (end_within (row_room c.args.table.now) (next_row c.args.table.now (key_of c.args.before)) (row_looks c.args.table.now (key_of c.args.before)) c.held.result.now (c.in-Ok.row.0, c.in-Ok.row.1) c.in-Ok.end c.in-Ok.ensures.exact)

-- a fault of the whole answer
abbrev FailsIn : Table → Option (Bor Key) → List ℕ → Refusal SlotFault → Type 0
FailsIn table before held refusal = Fails refusal (next_row table (key_of before) (from held 0))

pub fault-requires : goal.fault-requires
fault-requires g c =
    subst (λ (held : List ℕ). c.in-Err-Fault.fault.at ≤ length held) c.held.ensures
    (fault_within (row_room c.args.table.now) (next_row c.args.table.now (key_of c.args.before)) (row_looks c.args.table.now (key_of c.args.before)) c.held.result.now c.in-Err-Fault.fault (subst (FailsIn c.args.table.now c.args.before c.held.result.now) c.in-Err-Fault.field-0-is c.in-Err-Fault.ensures.exact))

pub returns-in-Ok-clause-read : goal.returns-in-Ok-clause-read
returns-in-Ok-clause-read g c =
    read_known (row_room c.args.table.now) (next_row c.args.table.now (key_of c.args.before)) (row_looks c.args.table.now (key_of c.args.before)) (row_few c.args.table.now c.requires.well_formed.few) (g.D.Disk.known c.args.disk.now) c.args.pieces.now c.fill.new.self
    c.held.result.now c.in_ok-fill.ensures.filled c.fill.ensures.place c.held.ensures (c.in-Ok.row.0, c.in-Ok.row.1) c.in-Ok.end c.pass.new.self c.pass.ensures c.in-Ok.ensures.exact

pub returns-in-Err-Fault-clause-fault : goal.returns-in-Err-Fault-clause-fault
returns-in-Err-Fault-clause-fault g c = λ fault is.
    fault_known (row_room c.args.table.now) (next_row c.args.table.now (key_of c.args.before)) (row_looks c.args.table.now (key_of c.args.before)) (row_few c.args.table.now c.requires.well_formed.few) (g.D.Disk.known c.args.disk.now) c.args.pieces.now c.fill.new.self
    c.held.result.now c.in_ok-fill.ensures.filled c.fill.ensures.place c.held.ensures c.in-Err-Fault.fault fault (sym (stop_same _ _ is) ∙ c.fault.ensures) (subst (FailsIn c.args.table.now c.args.before c.held.result.now) c.in-Err-Fault.field-0-is c.in-Err-Fault.ensures.exact)
