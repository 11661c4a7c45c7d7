-- A body that was found fits the catalogue and is short.
use Rattle.std.proofs.Common.{ℕ, ◌+◌, ◌*◌, ◌≤◌, List, [], ◌∷◌, ◌++◌, length, Result, Ok, Err, arith}
use Rattle.std.specs.Prelude.{IfOk}
use Rattle.std.specs.Int.{w32, to_le_bytes}
use Rattle.std.specs.List.{All}
use Rattle.std.proofs.lemmas.List.{length-append}
use Rattle.std.proofs.lemmas.List.Elements.{All-weaker}
use Rattle.pac_base.specs.declared.refusal.Refusal.{Refusal}
use Rattle.pac_ops.specs.declared.transaction.Txn.{Txn}
use Rattle.pac_types.specs.Fits.{TxnFits}
use Rattle.pac_types.specs.Typing.{CatalogueState}
use Rattle.pac_bytes.specs.Readers.{IsAtStart, Finds}
use Rattle.pac_bytes.specs.Reading.{Rest}
use Rattle.pac_bytes.proofs.Numbers.{width32}
use Rattle.pac_entry.specs.Entries.{IsEntry}
use Rattle.pac_log.specs.declared.damage.LinkFault.{LinkFault}
use Rattle.pac_entry.specs.declared.limits.TheConstants.{MAX_BODY_LEN}
use Rattle.pac_log.specs.declared.link.Link.{Link}
use Rattle.pac_log.specs.Bodies.{entries_bytes, body_bytes, IsBody, link_bytes, IsLogLink}
use Rattle.pac_log.proofs.LogLemmas.{body_long}

pub body_found : (catalogue : CatalogueState) (bytes : List ℕ) (at : ℕ) (result : Result (Link × ℕ) (Refusal LinkFault)) → Finds (IsLogLink catalogue) link_bytes bytes at result → IfOk result (λ found. IsBody catalogue found.0.txns)
body_found catalogue bytes at (Ok found) is = is.form
body_found catalogue bytes at (Err refusal) is = tt

pub body_fits : (catalogue : CatalogueState) (result : Result (Link × ℕ) (Refusal LinkFault)) → IfOk result (λ found. IsBody catalogue found.0.txns) → IfOk result (λ found. All (TxnFits catalogue) found.0.txns)
body_fits catalogue (Ok found) is = All-weaker (IsEntry catalogue) (TxnFits catalogue) (λ txn entry. entry.0) found.0.txns is.each
body_fits catalogue (Err refusal) is = tt

short : (txns : List Txn) → length (entries_bytes txns) + 8 ≤ MAX_BODY_LEN → length (body_bytes txns) ≤ MAX_BODY_LEN
short txns le =
    let count = to_le_bytes w32 (length txns) in
    let len = to_le_bytes w32 (length (entries_bytes txns)) in
    omega (arith, le, length-append count (len ++ entries_bytes txns), length-append len (entries_bytes txns), width32.len (length txns), width32.len (length (entries_bytes txns)))

pub body_short : (catalogue : CatalogueState) (result : Result (Link × ℕ) (Refusal LinkFault)) → IfOk result (λ found. IsBody catalogue found.0.txns) → IfOk result (λ found. length (body_bytes found.0.txns) ≤ MAX_BODY_LEN)
body_short catalogue (Ok found) is = short found.0.txns (omega (arith, is.short))
body_short catalogue (Err refusal) is = tt

-- the offset after what was found is so far on that each transaction took two bytes
pub end_far : (catalogue : CatalogueState) (s t : Rest) (link : Link) → IsAtStart (IsLogLink catalogue) link_bytes s link t → 2 * length link.txns + 1 + s.at ≤ t.at
end_far catalogue s t link is = omega (arith, is.offset, length-append (body_bytes link.txns) (link.gate ∷ []), body_long link.txns)
