-- How long the body of a group is: as a session counts it, and as the log has it.
use Rattle.std.proofs.Common.{◌≡◌, ℕ, ◌+◌, List, [], ◌∷◌, ◌++◌, length, refl, sym, ap, arith, length-append}
use Rattle.std.proofs.lemmas.List.Concat.{length-flat_map}
use Rattle.std.specs.Int.{w32, to_le_bytes}
use Rattle.pac_ops.specs.declared.transaction.Txn.{Txn}
use Rattle.pac_bytes.proofs.Numbers.{width32}
use Rattle.pac_entry.specs.Entries.{txn_bytes}
use Rattle.pac_script.specs.Batches.{body_len}
use Rattle.pac_log.specs.declared.position.NextGate.{NextGate}
use Rattle.pac_log.specs.Bodies.{body_bytes, entries_bytes}
use Rattle.pac_session.specs.Groups.{place_after_group}
use Rattle.pac_engine.specs.Committing.{gate_past}

pub body_len-bytes : (txns : List Txn) → body_len txns ≡ length (body_bytes txns)
body_len-bytes txns =
    let count = to_le_bytes w32 (length txns) in
    let len = to_le_bytes w32 (length (entries_bytes txns)) in
    omega (arith, length-append count (len ++ entries_bytes txns), length-append len (entries_bytes txns), width32.len (length txns), width32.len (length (entries_bytes txns)), length-flat_map txn_bytes txns)

-- the gate after the transactions of a group
pub place-after : (txns : List Txn) (gate : NextGate) → (gate_past txns gate).place ≡ place_after_group gate.place txns
place-after [] gate = refl
place-after (txn ∷ txns) gate = ap (λ (n : ℕ). gate.place + (1 + n)) (sym (body_len-bytes (txn ∷ txns)))

pub txns-after : (txns : List Txn) (gate : NextGate) → (gate_past txns gate).txns ≡ gate.txns + length txns
txns-after [] gate = omega arith
txns-after (txn ∷ txns) gate = refl
