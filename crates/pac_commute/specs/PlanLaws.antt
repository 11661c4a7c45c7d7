-- The laws of replay in pieces, of a plan and of batches of transactions whose numbers run on.
use Rattle.std.specs.Prelude.{◌≡◌, ℕ, ◌+◌, ◌<◌, Bool, true, List, [], ◌∷◌, ◌++◌, length, slice_get, Some}
use Rattle.pac_value.specs.State.{Tables}
use Rattle.pac_ops.specs.declared.batch.Batch.{Batch}
use Rattle.pac_ops.specs.declared.piece.PieceId.{PieceId}
use Rattle.pac_ops.specs.declared.transaction.Txn.{Txn}
use Rattle.pac_ops.specs.Notes.{first_note, least}
use Rattle.pac_ops.specs.Transactions.{replayed, txn_state, txn_notes}
use Rattle.pac_plan.specs.declared.parts.PlanParts.{PlanParts}
use Rattle.pac_plan.specs.Analysis.{IsPlan}
use Rattle.pac_base.specs.Members.{Mem}
use Rattle.pac_plan.specs.Pieces.{Present, World, run_ops, blocks_of, pieces, partial, every}
use Rattle.pac_plan.specs.Worlds.{world, initial, numbers, blocks_in, txn_at, batch_of, RecordsInTables, IsWholeReplay}

-- ---- batches

-- the transactions of batches, one after another
abbrev pub txns_of : List Batch → List Txn
txns_of [] = []
txns_of (batch ∷ batches) = batch.txns ++ txns_of batches

-- the first batch begins with this number, and each other one with the number after the last of the batch before it
abbrev pub NumbersRunOn : ℕ → List Batch → Type 0
NumbersRunOn next [] = Unit {0}
NumbersRunOn next (batch ∷ batches) = (batch.first ≡ next) × NumbersRunOn (next + length batch.txns) batches

-- where numbers run on, each transaction of the batch at offset k counts k + 1 batches that begin at or before it, and
-- stands under its number
abbrev pub NumbersTied : Type 0
NumbersTied = (first : ℕ) (batches : List Batch) → NumbersRunOn first batches
    → (k : ℕ) (batch : Batch) → slice_get batches k ≡ Some batch → (i : ℕ) → i < length batch.txns
    → (batch_of batches (batch.first + i) ≡ k + 1) × (txn_at first (txns_of batches) (batch.first + i) ≡ slice_get batch.txns i)

-- ---- laws of a plan

-- the plan's world of the transactions of batches
abbrev pub planned : PlanParts → ℕ → List Batch → World
planned parts first batches = world parts first (batch_of batches) (txns_of batches)

-- the numbers of these transactions
abbrev pub numbers_of : ℕ → List Batch → List ℕ
numbers_of first batches = numbers first (txns_of batches)

-- each ad hoc record fits a table of the plan
abbrev pub AllInTables : PlanParts → List Txn → Type 0
AllInTables parts txns = (i : ℕ) (txn : Txn) → slice_get txns i ≡ Some txn → RecordsInTables parts txn

-- a law of the pieces of a plan and of batches whose numbers run on and whose ad hoc records fit the plan's tables
abbrev pub OfPlan : (World → List ℕ → List ℕ → Type 0) → Type 0
OfPlan Law = (parts : PlanParts) → IsPlan parts → (first : ℕ) (batches : List Batch) → NumbersRunOn first batches → AllInTables parts (txns_of batches)
    → Law (planned parts first batches) (numbers_of first batches) (blocks_in parts)

-- a law of the world of a plan, whatever its pieces are
abbrev pub OfWorlds : (World → Type 0) → Type 0
OfWorlds Law = (parts : PlanParts) → IsPlan parts → (first : ℕ) (batches : List Batch) → Law (planned parts first batches)

-- ---- one transaction

-- the pieces of one transaction in the order of blocks give what its operations give in their order
abbrev pub BlocksInOrder : World → List ℕ → List ℕ → Type 0
BlocksInOrder w ts bs = (t : ℕ) → Mem t ts → (s : Present) → partial w every (blocks_of w t bs) s ≡ run_ops t (w.vars t) (w.code t) s

-- what one transaction makes of the state before it: its tables, its own variables, those of the others unchanged, and the
-- least note
pub record IsTxnEnd (parts : PlanParts) (t : ℕ) (txn : Txn) (before after : Present) : Type 0 where
  pub tables : after.tables ≡ (txn_state parts.programs txn before.tables).tables
  pub own : after.envs t ≡ (txn_state parts.programs txn before.tables).env
  pub others : (u : ℕ) → (u ≡ t → ⊥) → after.envs u ≡ before.envs u
  pub note : after.note ≡ least before.note (first_note (txn_notes parts.programs t txn before.tables))

-- from its arguments, the pieces of one transaction in the order of blocks give what the transaction means
abbrev pub BlocksGiveTxn : Type 0
BlocksGiveTxn = (parts : PlanParts) → IsPlan parts → (first : ℕ) (batches : List Batch) → NumbersRunOn first batches → AllInTables parts (txns_of batches)
    → (t : ℕ) (txn : Txn) → txn_at first (txns_of batches) t ≡ Some txn → (before : Present) → before.envs t ≡ (initial first (txns_of batches) before.tables).envs t
    → IsTxnEnd parts t txn before (partial (planned parts first batches) every (blocks_of (planned parts first batches) t (blocks_in parts)) before)

-- ---- all transactions

-- the whole replay in the world is the replay of the transactions one after another
abbrev pub WholeReplay : Type 0
WholeReplay = (parts : PlanParts) (first : ℕ) (batch : ℕ → ℕ) (txns : List Txn) (tables : Tables) → IsWholeReplay parts first batch txns tables

-- with every piece that exists, the partial replay leaves the replayed tables and their first note
abbrev pub EndsAsReplayed : Type 0
EndsAsReplayed = (parts : PlanParts) → IsPlan parts → (first : ℕ) (batches : List Batch) → NumbersRunOn first batches → AllInTables parts (txns_of batches)
    → (tables : Tables) (F : PieceId → Bool) → ((p : PieceId) → Mem p (pieces (planned parts first batches) (numbers_of first batches) (blocks_in parts)) → F p ≡ true)
    → let end = partial (planned parts first batches) F (pieces (planned parts first batches) (numbers_of first batches) (blocks_in parts)) (initial first (txns_of batches) tables) in
    (end.tables ≡ (replayed parts.programs first (txns_of batches) tables).tables) × (end.note ≡ first_note (replayed parts.programs first (txns_of batches) tables).notes)
