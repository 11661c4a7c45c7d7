-- What is read in the bytes that are held is read on the device.
use Rattle.std.proofs.Common.{◌∙◌, ◌≤◌, List, ℕ, length, sym, subst, arith}
use Rattle.pac_check.specs.CheckpointReading.{next_head}
use Rattle.pac_check.proofs.PieceLemmas.{head_looks, end_within, fault_within, read_known, fault_known, stop_same}
use Rattle.pac_check.proofs.items.head_from.Goals as goal

pub pass-requires : goal.pass-requires
pass-requires g c = subst (λ (held : List ℕ). c.in-Ok.end ≤ length held) c.held.ensures (end_within 27 (next_head c.args.tables) (head_looks c.args.tables) c.held.result.now c.in-Ok.head c.in-Ok.end c.in-Ok.ensures)

pub fault-requires : goal.fault-requires
fault-requires g c = subst (λ (held : List ℕ). c.in-Err.fault.at ≤ length held) c.held.ensures (fault_within 27 (next_head c.args.tables) (head_looks c.args.tables) c.held.result.now c.in-Err.fault c.in-Err.ensures)

pub returns-in-Ok-clause-read : goal.returns-in-Ok-clause-read
returns-in-Ok-clause-read g c =
    read_known 27 (next_head c.args.tables) (head_looks c.args.tables) (omega arith) (g.D.Disk.known c.args.disk.now) c.args.pieces.now c.fill.new.self c.held.result.now c.in_ok-fill.ensures.filled c.fill.ensures.place c.held.ensures
    c.in-Ok.head c.in-Ok.end c.pass.new.self c.pass.ensures c.in-Ok.ensures

pub returns-in-Err-clause-fault : goal.returns-in-Err-clause-fault
returns-in-Err-clause-fault g c = λ fault is.
    fault_known 27 (next_head c.args.tables) (head_looks c.args.tables) (omega arith) (g.D.Disk.known c.args.disk.now) c.args.pieces.now c.fill.new.self c.held.result.now c.in_ok-fill.ensures.filled c.fill.ensures.place c.held.ensures
    c.in-Err.fault fault (sym (stop_same _ _ is) ∙ c.fault.ensures) c.in-Err.ensures
