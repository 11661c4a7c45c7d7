-- The first batch that is kept, and the transaction in it at the place.
use Rattle.std.proofs.Common.{◌≡◌, ℕ, zero, suc, ◌+◌, ◌<◌, ◌≤◌, List, [], ◌∷◌, length, Some, refl, sym, ap, subst, arith}
use Rattle.std.specs.Prelude.{slice_get, slice_index_or}
use Rattle.pac_value.specs.State.{Tables}
use Rattle.pac_ops.specs.declared.batch.Batch.{Batch}
use Rattle.pac_ops.specs.declared.transaction.Txn.{Txn}
use Rattle.pac_piece.specs.InPlace.{Place}
use Rattle.pac_commute.specs.PlanLaws.{txns_of}
use Rattle.pac_in_order.specs.declared.line.Line.{Line}
use Rattle.pac_in_order.specs.Lines.{IsInFirst, KeepsLine, line_batches}
use Rattle.pac_in_order.proofs.Placed.{index_below, number_is}

pub front_is : (items : List Batch) (batch : Batch) → 0 < length items → batch ≡ slice_index_or items 0 batch → (rest : List Batch) × (items ≡ batch ∷ rest)
front_is [] batch some is = absurd (omega (arith, some))
front_is (b ∷ rest) batch some is = (rest, ap (λ x. x ∷ rest) (sym is))

pub at_index : (txns : List Txn) (i : ℕ) (txn : Txn) → i < length txns → txn ≡ slice_index_or txns i txn → slice_get txns i ≡ Some txn
at_index [] i txn lt is = absurd (omega (arith, lt))
at_index (t ∷ txns) zero txn lt is = ap (λ x. Some x) (sym is)
at_index (t ∷ txns) (suc i) txn lt is = at_index txns i txn (omega (arith, lt)) is

pub some_there : (txns : List Txn) (i : ℕ) → i < length txns → (txn : Txn) × (slice_get txns i ≡ Some txn)
some_there [] i lt = absurd (omega (arith, lt))
some_there (t ∷ txns) zero lt = (t, refl)
some_there (t ∷ txns) (suc i) lt = some_there txns i (omega (arith, lt))

-- the place is at a transaction, where it isn't at the end of the batch
pub below_end : (line : Line) (place : Place) (opening : Tables) → KeepsLine line place opening → (batch : Batch) (rest : List Batch) → line.batches.items ≡ batch ∷ rest → (line.txn ≡ length batch.txns → ⊥) → line.txn < length batch.txns
below_end line place opening keeps batch rest kept other = go (subst (IsInFirst line.txn) kept keeps.within)
  where
    go : line.txn ≤ length batch.txns → line.txn < length batch.txns
    go le = below line.txn (length batch.txns) le other
      where
        below : (a b : ℕ) → a ≤ b → (a ≡ b → ⊥) → a < b
        below a b le apart = grind (arith)

-- its number is below the next that may be loaded
pub number_below : (line : Line) (place : Place) (opening : Tables) (keeps : KeepsLine line place opening) (batch : Batch) (rest : List Batch) (kept : line.batches.items ≡ batch ∷ rest) (txn : Txn) → slice_get batch.txns line.txn ≡ Some txn
    → batch.first + line.txn < line.next
number_below line place opening keeps batch rest kept txn there =
    let number = number_is line place opening keeps batch rest kept txn there in
    let below = index_below line place opening keeps batch rest kept txn there in
    let next : line.next ≡ line.first + length (txns_of (line_batches line)) = keeps.next in
    omega (arith, number, below, next)
