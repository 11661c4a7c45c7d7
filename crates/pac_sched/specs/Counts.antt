-- What a scheduler keeps beside the schedule: numbers of unfinished predecessors, links between pairs, and flags of readiness.
use Rattle.std.specs.Prelude.{◌≡◌, ℕ, zero, suc, ◌+◌, ◌<◌, Bool, false, cond, not, ◌&&◌, ◌==◌, List, length, Option, Some, None, slice_get, slice_index, slice_index_or, count_by, All}
use Rattle.pac_ops.specs.declared.piece.PieceId.{PieceId}
use Rattle.pac_sched.specs.declared.state.PieceState.{PieceState}
use Rattle.pac_sched.specs.Schedules.{is_waiting, is_out, is_finished, some_passes, AreDifferent}

-- the state at a position is that of a piece that waits
abbrev pub waits_at : List PieceState → ℕ → Bool
waits_at states j = some_passes is_waiting (slice_get states j)

-- the piece at a position is finished
abbrev pub finished_at : List PieceState → ℕ → Bool
finished_at states i = some_passes is_finished (slice_get states i)

-- a pair keeps the piece at a position waiting
abbrev pub holds_up : List PieceState → ℕ → ℕ × ℕ → Bool
holds_up states j pair = pair.1 == j && not (finished_at states pair.0)

-- a pair leads from one position to another
abbrev pub leads : ℕ → ℕ → ℕ × ℕ → Bool
leads i j pair = pair.0 == i && pair.1 == j

-- how many of the first pairs pass a test
abbrev pub passing : (ℕ × ℕ → Bool) → List (ℕ × ℕ) → ℕ → ℕ
passing test pairs zero = 0
passing test pairs (suc m) = passing test pairs m + cond (some_passes test (slice_get pairs m)) 1 0

-- the last of the first pairs that begins at a position
abbrev pub last_from : List (ℕ × ℕ) → ℕ → ℕ → Option ℕ
last_from pairs i zero = None
last_from pairs i (suc m) = cond (some_passes (λ pair. pair.0 == i) (slice_get pairs m)) (Some m) (last_from pairs i m)

-- how many pairs there are up to this one
abbrev pub pairs_up_to : Option ℕ → ℕ
pairs_up_to None = 0
pairs_up_to (Some k) = suc k

-- each position has its last pair, and each pair the one before it that begins at the same position
pub record AreLinked (pairs : List (ℕ × ℕ)) (previous last : List (Option ℕ)) : Type 0 where
  pub len : length previous ≡ length pairs
  pub links : (k : ℕ) (d : Option ℕ) (e : ℕ × ℕ) → k < length pairs → slice_index_or previous k d ≡ last_from pairs (slice_index_or pairs k e).0 k
  pub heads : (i : ℕ) (d : Option ℕ) → i < length last → slice_index_or last i d ≡ last_from pairs i (length pairs)
  pub inside : All (λ pair. pair.0 < length last) pairs

-- both positions of each pair are below a number
abbrev pub AreInside : ℕ → List (ℕ × ℕ) → Type 0
AreInside n pairs = All (λ pair. (pair.0 < n) × (pair.1 < n)) pairs

-- the numbers of unfinished predecessors, the flags of readiness and the counts are those of the schedule
pub record KeepsSchedule (pieces : List PieceId) (states : List PieceState) (pairs : List (ℕ × ℕ)) (waits : List ℕ) (ready : List Bool) (out unfinished : ℕ) : Type 0 where
  pub states_len : length states ≡ length pieces
  pub waits_len : length waits ≡ length pieces
  pub ready_len : length ready ≡ length pieces
  pub distinct : AreDifferent pieces
  pub inside : AreInside (length pieces) pairs
  pub counted : (j : ℕ) → j < length pieces → slice_index waits j ≡ passing (holds_up states j) pairs (length pairs)
  pub flagged : (j : ℕ) → j < length pieces → slice_index_or ready j false ≡ (waits_at states j && slice_index waits j == 0)
  pub ordered : (j : ℕ) → j < length pieces → waits_at states j ≡ false → slice_index waits j ≡ 0
  pub out_is : out ≡ count_by is_out states
  pub unfinished_is : unfinished ≡ count_by (λ state. not (is_finished state)) states

-- no unfinished piece holds up one that is out or finished
abbrev pub IsUnhindered : List PieceState → List (ℕ × ℕ) → Type 0
IsUnhindered states pairs = (j : ℕ) → j < length states → waits_at states j ≡ false → passing (holds_up states j) pairs (length pairs) ≡ 0
