-- Partial replays of a plan's transactions stay fit.
use Rattle.std.specs.Prelude.{◌≡◌, ℕ, Bool, true, List, map, slice_get, Some, IsSomeAnd}
use Rattle.std.specs.FinMap.{get}
use Rattle.pac_value.specs.declared.values.Value.{Value}
use Rattle.pac_value.specs.Values.{type_of}
use Rattle.pac_value.specs.State.{Tables}
use Rattle.pac_ops.specs.declared.batch.Batch.{Batch}
use Rattle.pac_ops.specs.declared.piece.PieceId.{PieceId}
use Rattle.pac_ops.specs.declared.transaction.Txn.{Txn}
use Rattle.pac_ops.specs.declared.transaction.Txn.TheVariants.{Call as ACall, AdHoc}
use Rattle.pac_ops.specs.Shapes.{RowsFit, RecordsFit}
use Rattle.pac_plan.specs.declared.parts.PlanParts.{PlanParts}
use Rattle.pac_plan.specs.Analysis.{IsPlan}
use Rattle.pac_base.specs.Members.{Mem}
use Rattle.pac_plan.specs.Pieces.{Present, of_txn, World, ops, pieces, partial, needs}
use Rattle.pac_commute.specs.Exchange.{env_after, HoldsNeeds}
use Rattle.pac_plan.specs.Worlds.{initial, blocks_in}
use Rattle.pac_ops.specs.StaysFit.{StaysFitAt}
use Rattle.pac_commute.specs.PlanLaws.{txns_of, NumbersRunOn, planned, numbers_of}

-- a transaction fits a plan: a call's program is there, with parameters of the arguments' types, and records fit the tables
abbrev pub TxnIsOfPlan : PlanParts → Txn → Type 0
TxnIsOfPlan parts (ACall call) = IsSomeAnd (slice_get parts.programs call.proc) (λ program. map type_of call.args ≡ program.params)
TxnIsOfPlan parts (AdHoc records) = RecordsFit parts.tables records

-- each transaction fits the plan
abbrev pub TxnsFitPlan : PlanParts → List Txn → Type 0
TxnsFitPlan parts txns = (i : ℕ) (txn : Txn) → slice_get txns i ≡ Some txn → TxnIsOfPlan parts txn

-- rows fit, and the variables of each transaction have their types
pub record PresentFits (parts : PlanParts) (w : World) (s : Present) : Type 0 where
  pub rows : RowsFit parts.tables s.tables
  pub types : (t x : ℕ) (v : Value) → get (s.envs t) x ≡ Some v → slice_get (w.vars t) x ≡ Some (type_of v)

-- a partial replay that holds what its pieces need fits, and each piece that has what it needs finds what it uses there
abbrev pub PartialStaysFit : Type 0
PartialStaysFit = (parts : PlanParts) → IsPlan parts → (first : ℕ) (batches : List Batch) → NumbersRunOn first batches → TxnsFitPlan parts (txns_of batches)
    → (tables : Tables) → RowsFit parts.tables tables → (F : PieceId → Bool)
    → HoldsNeeds (planned parts first batches) (env_after (planned parts first batches) (numbers_of first batches) (initial first (txns_of batches) tables)) (pieces (planned parts first batches) (numbers_of first batches) (blocks_in parts)) F
    → PresentFits parts (planned parts first batches) (partial (planned parts first batches) F (pieces (planned parts first batches) (numbers_of first batches) (blocks_in parts)) (initial first (txns_of batches) tables))
    × ((p : PieceId) → ((q : PieceId) → Mem q (pieces (planned parts first batches) (numbers_of first batches) (blocks_in parts)) → needs (planned parts first batches) (env_after (planned parts first batches) (numbers_of first batches) (initial first (txns_of batches) tables)) q p ≡ true → F q ≡ true)
    → StaysFitAt parts.tables ((planned parts first batches).vars p.txn) (ops (planned parts first batches) p) (of_txn p.txn (partial (planned parts first batches) F (pieces (planned parts first batches) (numbers_of first batches) (blocks_in parts)) (initial first (txns_of batches) tables))))
