-- What the search for classes keeps, and what one visit leaves.
use Rattle.std.specs.Prelude.{◌≡◌, ◌⊎◌, ℕ, ◌+◌, ◌*◌, ◌<◌, ◌≤◌, List, length, slice_index, slice_index_or, sum_by}
use Rattle.pac_graph.specs.declared.limits.TheConstants.{MAX_NODES}
use Rattle.pac_graph.specs.declared.search.Mark.{Mark}
use Rattle.pac_graph.specs.declared.search.Mark.TheVariants.{Fresh, Open, Done}
use Rattle.pac_graph.specs.Graph.{Reach}

-- the mark of a node
abbrev pub mark_of : List Mark → ℕ → Mark
mark_of marks u = slice_index_or marks u Fresh

-- how often a mark can still change
abbrev pub changes_of : Mark → ℕ
changes_of Fresh = 2
changes_of (Open offset) = 1
changes_of (Done class) = 0

-- how often the marks together can still change
unfoldable pub changes_left : List Mark → ℕ
changes_left marks = sum_by changes_of marks

-- between two visits
pub record IsSearch (edge : ℕ → ℕ → Type 0) (nodes : ℕ) (marks : List Mark) (stack : List ℕ) (count : ℕ) : Type 0 where
  pub few : nodes ≤ MAX_NODES
  pub size : length marks ≡ nodes
  pub within : (p : ℕ) → p < length stack → slice_index stack p < nodes
  -- the nodes on the stack are the open ones, and each reaches those above it
  pub opened : (p : ℕ) → p < length stack → mark_of marks (slice_index stack p) ≡ Open p
  pub on_stack : (u p : ℕ) → mark_of marks u ≡ Open p → (p < length stack) × (slice_index stack p ≡ u)
  pub down : (i j : ℕ) → i ≤ j → j < length stack → Reach edge (slice_index stack i) (slice_index stack j)
  -- the nodes that are done have their class, and so have those that they lead to: no higher one
  pub below : (u c : ℕ) → mark_of marks u ≡ Done c → c < count
  pub falls : (u v c : ℕ) → mark_of marks u ≡ Done c → edge u v → (d : ℕ) × (mark_of marks v ≡ Done d) × (d ≤ c)
  pub same : (u v c : ℕ) → mark_of marks u ≡ Done c → mark_of marks v ≡ Done c → Reach edge u v
  pub used : (c : ℕ) → c < count → (u : ℕ) × (mark_of marks u ≡ Done c)
  -- there are no more classes than nodes that are done
  pub room : 2 * count + changes_left marks + length stack ≤ 2 * nodes

-- after the last visit
pub record IsSearched (edge : ℕ → ℕ → Type 0) (nodes : ℕ) (marks : List Mark) (stack : List ℕ) (count : ℕ) : Type 0 where
  pub search : IsSearch edge nodes marks stack count
  pub done : (u : ℕ) → u < nodes → (c : ℕ) × (mark_of marks u ≡ Done c)

-- done, or open at a position on the stack that is no lower than `low`
abbrev pub IsSeenFrom : List Mark → ℕ → ℕ → Type 0
IsSeenFrom marks low u = ((c : ℕ) × (mark_of marks u ≡ Done c)) ⊎ ((p : ℕ) × (mark_of marks u ≡ Open p) × (low ≤ p))

-- what a visit of `node` leaves, which found the marks and the stack `before`
pub record IsVisited (edge : ℕ → ℕ → Type 0) (nodes : ℕ) (marks_before : List Mark) (stack_before : List ℕ) (marks : List Mark) (stack : List ℕ) (count : ℕ) (node low : ℕ) : Type 0 where
  pub search : IsSearch edge nodes marks stack count
  pub longer : length stack_before ≤ length stack
  pub prefix : (p : ℕ) → p < length stack_before → slice_index stack p ≡ slice_index stack_before p
  pub kept : (u c : ℕ) → mark_of marks_before u ≡ Done c → mark_of marks u ≡ Done c
  pub seen : IsSeenFrom marks low node
  pub in_low : low ≤ length stack_before
  pub reached : low < length stack_before → Reach edge node (slice_index stack low)
  -- the nodes that the visit left on the stack reach the one at `low`, and lead to none below it
  pub back : (p : ℕ) → length stack_before ≤ p → p < length stack → (low < length stack_before) × Reach edge (slice_index stack p) (slice_index stack low)
  pub closed : (p v : ℕ) → length stack_before ≤ p → p < length stack → edge (slice_index stack p) v → IsSeenFrom marks low v
  pub less : changes_left marks < changes_left marks_before

-- the nodes at these positions on the stack were given a class, and no other mark changed
abbrev pub GaveClass : List Mark → List Mark → List ℕ → ℕ → ℕ → ℕ → Type 0
GaveClass marks_before marks stack from to class = (u : ℕ) → ((p : ℕ) × (from ≤ p) × (p < to) × (slice_index stack p ≡ u) × (mark_of marks u ≡ Done class)) ⊎ ((mark_of marks u ≡ mark_of marks_before u) × ((p : ℕ) → from ≤ p → p < to → slice_index stack p ≡ u → ⊥))
