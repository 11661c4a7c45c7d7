-- What is loaded, and what the loading of one more batch changes of it.
use Rattle.std.specs.Prelude.{◌≡◌, ℕ, ◌+◌, ◌<◌, ◌≤◌, Bool, false, if◌then◌else◌, nat_lt, List, [], ◌∷◌, ◌++◌, length}
use Rattle.pac_value.specs.Expressions.{Values}
use Rattle.pac_value.specs.State.{Tables}
use Rattle.pac_ops.specs.declared.batch.Batch.{Batch}
use Rattle.pac_ops.specs.declared.piece.PieceId.{PieceId}
use Rattle.pac_plan.specs.declared.parts.PlanParts.{PlanParts}
use Rattle.pac_base.specs.Members.{Mem}
use Rattle.pac_plan.specs.Pieces.{Present, World, ops, access, precedes, partial, pieces}
use Rattle.pac_plan.specs.Worlds.{initial, blocks_in}
use Rattle.pac_commute.specs.Exchange.{env_after}
use Rattle.pac_commute.specs.PlanLaws.{txns_of, NumbersRunOn, planned, numbers_of}

-- what is replayed: by a plan, from a number and from tables on
pub record Job : Type 0 where
  pub parts : PlanParts
  pub first : ℕ
  pub tables : Tables

-- the world of the transactions of batches
abbrev pub world_of : Job → List Batch → World
world_of job batches = planned job.parts job.first batches

-- their pieces, in order
abbrev pub pieces_of : Job → List Batch → List PieceId
pieces_of job batches = pieces (world_of job batches) (numbers_of job.first batches) (blocks_in job.parts)

-- the state before any of them: each transaction has its arguments
abbrev pub begin : Job → List Batch → Present
begin job batches = initial job.first (txns_of batches) job.tables

-- the values that each transaction ends with where all run one after another
abbrev pub end_values : Job → List Batch → ℕ → Values
end_values job batches = env_after (world_of job batches) (numbers_of job.first batches) (begin job batches)

-- the number after the last of them
abbrev pub next_in_job : Job → List Batch → ℕ
next_in_job job batches = job.first + length (txns_of batches)

-- transactions from number n on begin with these values
abbrev pub loaded : ℕ → (ℕ → Values) → Present → Present
loaded n envs s = record { tables = s.tables; envs = λ t. if nat_lt t n then s.envs t else envs t; note = s.note }

-- the batches with one more
abbrev pub and_batch : List Batch → Batch → List Batch
and_batch batches batch = batches ++ batch ∷ []

-- one more batch leaves all that was there: the partial replay but for the arguments of the new transactions, the values that
-- the old ones end with, their pieces with operations, accesses and precedence, and no new piece precedes an old one
pub record LoadKeeps (job : Job) (batches : List Batch) (batch : Batch) : Type 0 where
  pub state : (F : PieceId → Bool) → ((p : PieceId) → next_in_job job batches ≤ p.txn → F p ≡ false)
      → partial (world_of job (and_batch batches batch)) F (pieces_of job (and_batch batches batch)) (begin job (and_batch batches batch))
      ≡ loaded (next_in_job job batches) (begin job (and_batch batches batch)).envs (partial (world_of job batches) F (pieces_of job batches) (begin job batches))
  pub envs : (t : ℕ) → t < next_in_job job batches → end_values job (and_batch batches batch) t ≡ end_values job batches t
  pub vars : (t : ℕ) → t < next_in_job job batches → (world_of job (and_batch batches batch)).vars t ≡ (world_of job batches).vars t
  pub operations : (p : PieceId) → p.txn < next_in_job job batches → ops (world_of job (and_batch batches batch)) p ≡ ops (world_of job batches) p
  pub accesses : (p : PieceId) → p.txn < next_in_job job batches
      → access (world_of job (and_batch batches batch)) (end_values job (and_batch batches batch)) p ≡ access (world_of job batches) (end_values job batches) p
  pub precedence : (p q : PieceId) → p.txn < next_in_job job batches → q.txn < next_in_job job batches
      → precedes (world_of job (and_batch batches batch)) (end_values job (and_batch batches batch)) p q ≡ precedes (world_of job batches) (end_values job batches) p q
  pub later : (p q : PieceId) → next_in_job job batches ≤ p.txn → q.txn < next_in_job job batches
      → precedes (world_of job (and_batch batches batch)) (end_values job (and_batch batches batch)) p q ≡ false
  pub there : (p : PieceId) → Mem p (pieces_of job batches) → (p.txn < next_in_job job batches) × Mem p (pieces_of job (and_batch batches batch))
  pub old : (p : PieceId) → Mem p (pieces_of job (and_batch batches batch)) → p.txn < next_in_job job batches → Mem p (pieces_of job batches)

-- a batch whose numbers run on may be loaded at any time
abbrev pub LoadsKeep : Type 0
LoadsKeep = (job : Job) (batches : List Batch) (batch : Batch) → NumbersRunOn job.first batches → batch.first ≡ next_in_job job batches → LoadKeeps job batches batch
