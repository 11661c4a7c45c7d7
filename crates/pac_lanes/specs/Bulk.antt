-- Whole transactions: pieces of transactions that one worker runs through one after another, without parting them.
use Rattle.std.specs.Prelude.{◌≡◌, ◌⊎◌, ℕ, ◌<◌, Bool, true, false, List}
use Rattle.pac_value.specs.Expressions.{Values}
use Rattle.pac_ops.specs.declared.piece.PieceId.{PieceId}
use Rattle.pac_base.specs.Members.{Mem, Rises}
use Rattle.pac_plan.specs.Pieces.{Present, World, pieces, replayed_in}
use Rattle.pac_lanes.specs.Shares.{applied_each, RunsInOrder}

-- some of the transactions, in order: nothing of them is finished, and of earlier ones all that isn't among them
pub record MayRunWhole (w : World) (ts bs : List ℕ) (F : PieceId → Bool) (now : List ℕ) : Type 0 where
  pub rises : Rises now
  pub there : (t : ℕ) → Mem t now → Mem t ts
  pub unfinished : (p : PieceId) → Mem p (pieces w now bs) → F p ≡ false
  pub earlier : (q : PieceId) (t : ℕ) → Mem q (pieces w ts bs) → Mem t now → q.txn < t → Mem q.txn now ⊎ (F q ≡ true)

-- all their pieces run in order
abbrev pub BulkRuns : World → List ℕ → List ℕ → Type 0
BulkRuns w ts bs = (env : ℕ → Values) (F : PieceId → Bool) (now : List ℕ) → MayRunWhole w ts bs F now → RunsInOrder w env (pieces w ts bs) F (pieces w now bs)

-- and that is to run the operations of each through
abbrev pub BulkIsFlat : World → List ℕ → List ℕ → Type 0
BulkIsFlat w ts bs = (now : List ℕ) → ((t : ℕ) → Mem t now → Mem t ts) → (s : Present) → applied_each w (pieces w now bs) s ≡ replayed_in w now s
