-- Queues of accesses: one of each row, in which stand the accesses that touch it, and one of the block, in which all stand where one of them
-- is of the whole block.
use Rattle.std.specs.Prelude.{◌≡◌, ◌⊎◌, ℕ, ◌+◌, ◌<◌, ◌≤◌, Bool, true, false, ◌||◌, if◌then◌else◌, List, [], ◌∷◌, ◌++◌, map, length, slice_index_or, Option, Some, None, Contains}
use Rattle.std.specs.List.{list_any}
use Rattle.pac_value.specs.State.{Cell}
use Rattle.pac_plan.specs.declared.access.Touch.{Touch}
use Rattle.pac_plan.specs.declared.access.Access.{Access}
use Rattle.pac_plan.specs.declared.access.Access.TheVariants.{Keys, Whole}
use Rattle.pac_plan.specs.Pieces.{named_cell}
use Rattle.pac_plan.specs.NextPairs.{is_whole, has_key, writes_key, NoneBetween}
use Rattle.pac_batch.specs.declared.queues.Queued.{Queued}

-- ---- what stands in which queue

-- an access in the queue of a row that it touches
abbrev pub queued_touch : ℕ → Touch → Queued
queued_touch i touch = record { row = Some (named_cell touch); index = i; is_write = touch.is_write }

-- an access in the queue of the block
abbrev pub queued_block : ℕ → Bool → Queued
queued_block i whole = record { row = None; index = i; is_write = whole }

-- an access in the queues of the rows that it touches
abbrev pub queued_touches : ℕ → Access → List Queued
queued_touches i Whole = []
queued_touches i (Keys touches) = map (queued_touch i) touches

-- the accesses from a position on in the queue of the block
abbrev pub block_from : ℕ → List Access → List Queued
block_from i [] = []
block_from i (x ∷ xs) = queued_block i (is_whole x) ∷ block_from (i + 1) xs

-- the accesses from a position on in the queues of rows
abbrev pub rows_from : ℕ → List Access → List Queued
rows_from i [] = []
rows_from i (x ∷ xs) = queued_touches i x ++ rows_from (i + 1) xs

-- whether one of them is of the whole block
abbrev pub any_whole : List Access → Bool
any_whole accesses = list_any is_whole accesses

-- accesses in their queues: where none is of the whole block the queue of the block joins none, and is left out
abbrev pub queued_all : List Access → List Queued
queued_all accesses = (if any_whole accesses then block_from 0 accesses else []) ++ rows_from 0 accesses

-- the access stands in the queue of a row, or of the block
abbrev pub stands_in : Access → Option Cell → Bool
stands_in x None = true
stands_in x (Some a) = has_key x a

-- the access modifies the row, or the block
abbrev pub writes_in : Access → Option Cell → Bool
writes_in x None = is_whole x
writes_in x (Some a) = writes_key x a

-- ---- a list of accesses in queues

-- what stands at a position
abbrev pub entry : List Queued → ℕ → Queued
entry queued p = slice_index_or queued p (queued_block 0 false)

-- the entries of one queue stand together, ascending by access, the modifications of an access after its reads
pub record AreInOrder (queued : List Queued) : Type 0 where
  pub together : (p m q : ℕ) → p ≤ m → m ≤ q → q < length queued → (entry queued p).row ≡ (entry queued q).row → (entry queued p).row ≡ (entry queued m).row
  pub ascend : (p q : ℕ) → p ≤ q → q < length queued → (entry queued p).row ≡ (entry queued q).row → (entry queued p).index ≤ (entry queued q).index
  pub writes_last : (p q : ℕ) → p ≤ q → q < length queued → (entry queued p).row ≡ (entry queued q).row → (entry queued p).index ≡ (entry queued q).index
      → (entry queued p).is_write ≡ true → (entry queued q).is_write ≡ true

-- two entries of a queue, of different accesses, one of which modifies, with no modification between
pub record AreJoined (queued : List Queued) (p q : ℕ) : Type 0 where
  pub before : p < q
  pub row : (entry queued p).row ≡ (entry queued q).row
  pub earlier : (entry queued p).index < (entry queued q).index
  pub writes : ((entry queued p).is_write || (entry queued q).is_write) ≡ true
  pub none : NoneBetween (λ m. (entry queued m).is_write) p q

-- entries of two accesses, the later of them at a position, are joined
abbrev pub AreJoinedAt : List Queued → ℕ → ℕ → ℕ → Type 0
AreJoinedAt queued q i j = (p : ℕ) × AreJoined queued p q × ((entry queued p).index ≡ i) × ((entry queued q).index ≡ j)

-- the same, of a later one below a position
abbrev pub AreJoinedBelow : List Queued → ℕ → ℕ → ℕ → Type 0
AreJoinedBelow queued end i j = (q : ℕ) × (q < end) × AreJoinedAt queued q i j

-- the last modification before a position, all entries from it on being of one queue; or where there is none, the first entry of
-- the queue
pub record IsStart (queued : List Queued) (start end : ℕ) : Type 0 where
  pub within : start ≤ end
  pub same : (m : ℕ) → start ≤ m → m < end → (entry queued m).row ≡ (entry queued start).row
  pub reads : (m : ℕ) → start < m → m < end → (entry queued m).is_write ≡ false
  pub first : ((start < end) × ((entry queued start).is_write ≡ true)) ⊎ ((m : ℕ) → m < start → (entry queued m).row ≡ (entry queued start).row → ⊥)

-- the pair of the accesses of two entries, unless they are one
abbrev pub IsPairOf : Queued → Queued → ℕ → ℕ → Type 0
IsPairOf earlier later i j = (earlier.index < later.index) × (earlier.index ≡ i) × (later.index ≡ j)

-- a pair of the entry at a position and of one between two others
abbrev pub IsPairSince : List Queued → ℕ → ℕ → ℕ → ℕ → ℕ → Type 0
IsPairSince queued start end q i j = (p : ℕ) × (start ≤ p) × (p < end) × IsPairOf (entry queued p) (entry queued q) i j

-- pairs were added
pub record ArePairsAdded (old new : List (ℕ × ℕ)) (Added : ℕ → ℕ → Type 0) : Type 0 where
  pub kept : (i j : ℕ) → Contains old (i, j) → Contains new (i, j)
  pub added : (i j : ℕ) → Added i j → Contains new (i, j)
  pub only : (i j : ℕ) → Contains new (i, j) → Contains old (i, j) ⊎ Added i j
