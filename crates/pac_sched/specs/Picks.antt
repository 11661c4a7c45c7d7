-- What takes answer, in relations: which piece comes, and exactly when none does.
use Rattle.std.specs.Prelude.{◌≡◌, ℕ, ◌<◌, true, false, length, Some, slice_index_or}
use Rattle.pac_ops.specs.declared.piece.PieceId.{PieceId}
use Rattle.pac_sched.specs.declared.state.PieceState.TheVariants.{Waiting}
use Rattle.pac_sched.specs.declared.state.Pick.TheVariants.{Piece, NotReady, Done}
use Rattle.pac_sched.specs.Schedules.{Schedule, position_of, state_of_piece, is_finished_at, piece_is_ready, all_finished, pick}

-- all that the piece at a position waits for is finished
abbrev pub PredsDone : Schedule → ℕ → Type 0
PredsDone s i = (k : ℕ) (d : ℕ × ℕ) → k < length s.pairs → (slice_index_or s.pairs k d).1 ≡ i → is_finished_at s (slice_index_or s.pairs k d).0 ≡ true

-- a piece that stands at a position is ready exactly where it is neither out nor finished and all that it waits for is finished
abbrev pub ReadyByPairs : Type 0
ReadyByPairs = (s : Schedule) (id : PieceId) (i : ℕ) → position_of s id ≡ Some i
    → (piece_is_ready s id ≡ true → (state_of_piece s id ≡ Some Waiting) × PredsDone s i) × (state_of_piece s id ≡ Some Waiting → PredsDone s i → piece_is_ready s id ≡ true)

-- no piece is ready that was opened before this one
abbrev pub NoneReadyBefore : Schedule → PieceId → Type 0
NoneReadyBefore s id = (other : PieceId) (i j : ℕ) → position_of s id ≡ Some i → position_of s other ≡ Some j → j < i → piece_is_ready s other ≡ false

-- the piece that is handed out is ready, and the first that is
abbrev pub PicksFirst : Type 0
PicksFirst = (s : Schedule) (id : PieceId) → pick s ≡ Piece id → (piece_is_ready s id ≡ true) × NoneReadyBefore s id

-- no piece is ready
abbrev pub NoneReady : Schedule → Type 0
NoneReady s = (id : PieceId) → piece_is_ready s id ≡ false

-- NotReady comes exactly where none is ready and some piece isn't finished
abbrev pub NotReadyExactly : Type 0
NotReadyExactly = (s : Schedule) → (pick s ≡ NotReady → NoneReady s × (all_finished s ≡ false)) × (NoneReady s → all_finished s ≡ false → pick s ≡ NotReady)

-- Done comes exactly where all are finished
abbrev pub DoneExactly : Type 0
DoneExactly = (s : Schedule) → (pick s ≡ Done → all_finished s ≡ true) × (all_finished s ≡ true → pick s ≡ Done)
