-- Schedules: which pieces are open, which of them wait for which, and how far each is.
use Rattle.std.specs.Prelude.{◌≡◌, ℕ, ◌+◌, ◌<◌, Bool, true, false, cond, not, ◌&&◌, ◌||◌, ◌==◌, List, [], ◌++◌, map, length, replicate, Option, Some, None, slice_get, slice_set, position, find, count_by, All, AllPairs}
use Rattle.std.specs.List.{list_all}
use Rattle.pac_ops.specs.declared.piece.PieceId.{PieceId}
use Rattle.pac_plan.specs.Pieces.{is_piece}
use Rattle.pac_sched.specs.declared.state.PieceState.{PieceState}
use Rattle.pac_sched.specs.declared.state.PieceState.TheVariants.{Waiting, Out, Finished}
use Rattle.pac_sched.specs.declared.state.Pick.{Pick}
use Rattle.pac_sched.specs.declared.state.Pick.TheVariants.{Piece, NotReady, Done}

-- the pieces in the order of opening, how far each is, and the pairs of a piece's position and of that of one that waits for it
pub record Schedule : Type 0 where
  pub pieces : List PieceId
  pub states : List PieceState
  pub pairs : List (ℕ × ℕ)

-- nothing is open
abbrev pub nothing_open : Schedule
nothing_open = record { pieces = []; states = []; pairs = [] }

-- ---- how far a piece is

-- the state is that of a piece that is neither out nor finished
abbrev pub is_waiting : PieceState → Bool
is_waiting Waiting = true
is_waiting Out = false
is_waiting Finished = false

-- the state is that of a piece that is out
abbrev pub is_out : PieceState → Bool
is_out Waiting = false
is_out Out = true
is_out Finished = false

-- the state is that of a finished piece
abbrev pub is_finished : PieceState → Bool
is_finished Waiting = false
is_finished Out = false
is_finished Finished = true

-- there is a value, which passes the test
abbrev pub some_passes : {X : Type 0} → (X → Bool) → Option X → Bool
some_passes test None = false
some_passes test (Some x) = test x

-- the position of a piece, if it was opened
abbrev pub position_of : Schedule → PieceId → Option ℕ
position_of s id = position (is_piece id) s.pieces

-- what a list has at a position, if there is one
abbrev pub at_position : {X : Type 0} → List X → Option ℕ → Option X
at_position xs None = None
at_position xs (Some i) = slice_get xs i

-- how far a piece is, if it was opened
abbrev pub state_of_piece : Schedule → PieceId → Option PieceState
state_of_piece s id = at_position s.states (position_of s id)

-- the piece at a position is finished
abbrev pub is_finished_at : Schedule → ℕ → Bool
is_finished_at s i = some_passes is_finished (slice_get s.states i)

-- each piece that the one at a position waits for is finished
abbrev pub may_start : Schedule → ℕ → Bool
may_start s j = list_all (λ pair. not (pair.1 == j) || is_finished_at s pair.0) s.pairs

-- the piece at a position is neither out nor finished, and each that it waits for is finished
abbrev pub position_is_ready : Schedule → ℕ → Bool
position_is_ready s j = some_passes is_waiting (slice_get s.states j) && may_start s j

-- the piece is ready
abbrev pub piece_is_ready : Schedule → PieceId → Bool
piece_is_ready s id = some_passes (position_is_ready s) (position_of s id)

-- the first ready piece, in the order of opening
abbrev pub next_ready : Schedule → Option PieceId
next_ready s = find (piece_is_ready s) s.pieces

-- every opened piece is finished
abbrev pub all_finished : Schedule → Bool
all_finished s = list_all is_finished s.states

-- a piece that is out or finished has waited for finished pieces alone
abbrev pub IsInOrder : Schedule → Type 0
IsInOrder s = (j : ℕ) → some_passes (λ state. not (is_waiting state)) (slice_get s.states j) ≡ true → may_start s j ≡ true

-- ---- numbers

-- how many pieces are ready
abbrev pub ready_pieces : Schedule → ℕ
ready_pieces s = count_by (piece_is_ready s) s.pieces

-- how many are out
abbrev pub pieces_out : Schedule → ℕ
pieces_out s = count_by is_out s.states

-- how many are not finished
abbrev pub unfinished_pieces : Schedule → ℕ
unfinished_pieces s = count_by (λ state. not (is_finished state)) s.states

-- ---- changes

-- the states with this one at a position, if there is one
abbrev pub set_at : Option ℕ → PieceState → List PieceState → List PieceState
set_at None state states = states
set_at (Some i) state states = slice_set states i state

-- the schedule with the piece in this state
abbrev pub with_state : Schedule → PieceId → PieceState → Schedule
with_state s id state = record { pieces = s.pieces; states = set_at (position_of s id) state s.states; pairs = s.pairs }

-- pairs of positions in a list that comes after n others
abbrev pub moved_by : ℕ → List (ℕ × ℕ) → List (ℕ × ℕ)
moved_by n pairs = map (λ pair. (n + pair.0, n + pair.1)) pairs

-- more pieces are open after the others, with the pairs of their own positions
abbrev pub after_opening : Schedule → List PieceId → List (ℕ × ℕ) → Schedule
after_opening s pieces pairs = record {
  pieces = s.pieces ++ pieces;
  states = s.states ++ replicate (length pieces) Waiting;
  pairs = s.pairs ++ moved_by (length s.pieces) pairs;
}

-- a piece that was out waits again
abbrev pub put_back : PieceState → PieceState
put_back Waiting = Waiting
put_back Out = Waiting
put_back Finished = Finished

-- no piece is out any more
abbrev pub reclaimed : Schedule → Schedule
reclaimed s = record { pieces = s.pieces; states = map put_back s.states; pairs = s.pairs }

-- what a take answers of the first ready piece; without one, whether all are finished
abbrev pub pick_for : Schedule → Option PieceId → Pick
pick_for s None = cond (all_finished s) Done NotReady
pick_for s (Some id) = Piece id

-- what a take answers
abbrev pub pick : Schedule → Pick
pick s = pick_for s (next_ready s)

-- the piece, if there is one, is out now
abbrev pub handed_out : Schedule → Option PieceId → Schedule
handed_out s None = s
handed_out s (Some id) = with_state s id Out

-- what a take leaves
abbrev pub after_take : Schedule → Schedule
after_take s = handed_out s (next_ready s)

-- ---- conditions

-- no two of the pieces are the same
abbrev pub AreDifferent : List PieceId → Type 0
AreDifferent pieces = AllPairs (λ one other. is_piece one other ≡ false) pieces

-- the later position of each pair is below a number
abbrev pub ArePairsBelow : ℕ → List (ℕ × ℕ) → Type 0
ArePairsBelow n pairs = All (λ pair. pair.1 < n) pairs
