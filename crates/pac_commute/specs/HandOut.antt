-- Laws of two pieces, of readiness without barriers, and of hand-out: which piece is taken.
use Rattle.std.specs.Prelude.{◌≡◌, ◌⊎◌, ℕ, ◌<◌, Bool, true, false, ◌&&◌, ◌||◌, ◌==◌, nat_lt, List, Option, Some, None}
use Rattle.pac_value.specs.Expressions.{Values}
use Rattle.pac_ops.specs.declared.piece.PieceId.{PieceId}
use Rattle.pac_base.specs.Members.{Mem}
use Rattle.pac_plan.specs.Pieces.{Present, World, apply, access, conflicts, precedes, needs, HasInputs}

-- two pieces of different transactions and blocks, or of one transaction with no edge between their blocks, or of one block,
-- with accesses that don't conflict and their inputs there
abbrev pub Independent : World → (ℕ → Values) → Present → PieceId → PieceId → Type 0
Independent w env s p q =
    ((p.txn ≡ q.txn → ⊥) × (p.block ≡ q.block → ⊥))
    ⊎ (((p.txn ≡ q.txn) × (p.block ≡ q.block → ⊥) × (w.edge p.block q.block ≡ false) × (w.edge q.block p.block ≡ false))
    ⊎ ((p.txn ≡ q.txn → ⊥) × (p.block ≡ q.block) × (conflicts (access w env p) (access w env q) ≡ false) × HasInputs w env p s × HasInputs w env q s))

-- two such pieces change places
abbrev pub TwoPieces : World → Type 0
TwoPieces w = (env : ℕ → Values) (s : Present) (p q : PieceId) → Independent w env s p q → apply w p (apply w q s) ≡ apply w q (apply w p s)

-- what a scheduler without barriers waits for
abbrev pub FineReady : World → (ℕ → Values) → List PieceId → (PieceId → Bool) → PieceId → Type 0
FineReady w env L F p =
    ((q : PieceId) → Mem q L → q.txn ≡ p.txn → w.edge q.block p.block ≡ true → F q ≡ true)
    × ((q : PieceId) → Mem q L → q.txn < p.txn → q.block ≡ p.block
    → (F q ≡ true) ⊎ (((r : PieceId) → Mem r L → r.txn ≡ q.txn → w.edge r.block q.block ≡ true → F r ≡ true) × (conflicts (access w env q) (access w env p) ≡ false)))

-- readiness without barriers holds what a piece needs, and precedence gives it
abbrev pub FineIsEnough : World → (ℕ → Values) → List PieceId → Type 0
FineIsEnough w env L =
    (F : PieceId → Bool) (p : PieceId) → Mem p L
    → (FineReady w env L F p → (q : PieceId) → Mem q L → needs w env q p ≡ true → F q ≡ true)
    × (((q : PieceId) → Mem q L → precedes w env q p ≡ true → F q ≡ true) → FineReady w env L F p)

-- in the list, neither out nor finished, and its predecessors finished
abbrev pub IsReadyPiece : World → (ℕ → Values) → List PieceId → (PieceId → Bool) → (PieceId → Bool) → PieceId → Type 0
IsReadyPiece w env L out finished p = Mem p L × (out p ≡ false) × (finished p ≡ false) × ((q : PieceId) → Mem q L → precedes w env q p ≡ true → finished q ≡ true)

-- with nothing out and something unfinished, a piece is ready
abbrev pub SomeReady : World → (ℕ → Values) → List PieceId → Type 0
SomeReady w env L = (out finished : PieceId → Bool) → ((p : PieceId) → out p ≡ false) → (q : PieceId) → Mem q L → finished q ≡ false → (p : PieceId) × IsReadyPiece w env L out finished p

-- this for each list of pieces and all values
abbrev pub Hands : World → Type 0
Hands w = (env : ℕ → Values) (L : List PieceId) → SomeReady w env L

-- and so does this hold for each list of pieces and all values
abbrev pub Fine : World → Type 0
Fine w = (env : ℕ → Values) (L : List PieceId) → FineIsEnough w env L

-- ---- which piece is taken

-- p comes before q: by batch, then by block, then by transaction
abbrev pub comes_before : World → PieceId → PieceId → Bool
comes_before w p q =
    nat_lt (w.batch p.txn) (w.batch q.txn)
    || (w.batch p.txn == w.batch q.txn && (nat_lt p.block q.block || (p.block == q.block && nat_lt p.txn q.txn)))

-- what is taken: a ready piece that no ready one comes before; nothing only where none is ready
abbrev pub IsPieceTaken : World → (ℕ → Values) → List PieceId → (PieceId → Bool) → (PieceId → Bool) → Option PieceId → Type 0
IsPieceTaken w env L out finished None = (q : PieceId) → IsReadyPiece w env L out finished q → ⊥
IsPieceTaken w env L out finished (Some p) = IsReadyPiece w env L out finished p × ((q : PieceId) → IsReadyPiece w env L out finished q → comes_before w q p ≡ false)
