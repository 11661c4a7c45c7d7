-- What the numbering of classes keeps from turn to turn.
use Rattle.std.specs.Prelude.{◌≡◌, ◌⊎◌, ℕ, ◌+◌, ◌<◌, ◌≤◌, ◌==◌, List, length, slice_index, sum_by, if◌then◌else◌, Some}
use Rattle.std.specs.Ordering.{nat_cmp}
use Rattle.std.specs.BTreeMap as tree
use Rattle.pac_graph.specs.declared.limits.TheConstants.{MAX_NODES}
use Rattle.pac_graph.specs.declared.queue.Queue.{Queue}
use Rattle.pac_graph.specs.declared.condensation.Condensation.{Condensation}
use Rattle.pac_graph.specs.declared.turns.Turns.{Turns}
use Rattle.pac_graph.specs.Graph.{HasEdge, Reach}
use Rattle.pac_graph.specs.Numbering.{IsClassReady}

-- the class waits, at this rank
abbrev pub Waits : Queue → ℕ → ℕ → Type 0
Waits queue rank class = tree.get nat_cmp queue.classes rank ≡ Some class

-- the rank of c is no higher than that of d
abbrev pub RanksUpTo : List ℕ → ℕ → ℕ → Type 0
RanksUpTo ranks c d = slice_index ranks c ≤ slice_index ranks d

-- how many of that many classes have no number yet; until then it is their count
unfoldable pub unnumbered : ℕ → List ℕ → ℕ
unnumbered count numbers = sum_by (λ number. if number == count then 1 else 0) numbers

-- the first `turn` classes have their numbers; `passed` says how far the classes with an edge into a class were seen to have theirs
pub record AreTurns (edge before : ℕ → ℕ → Type 0) (count : ℕ) (numbers passed : List ℕ) (turn : ℕ) : Type 0 where
  pub size : length numbers ≡ count
  pub passed_size : length passed ≡ count
  pub few : count ≤ MAX_NODES
  pub room : turn + unnumbered count numbers ≡ count
  pub numbered : (class : ℕ) → class < count → (slice_index numbers class < turn) ⊎ (slice_index numbers class ≡ count)
  pub each : (t : ℕ) → t < turn → (class : ℕ) × (class < count) × (slice_index numbers class ≡ t)
  pub ready : (class : ℕ) → class < count → slice_index numbers class < turn → IsClassReady edge numbers (slice_index numbers class) class
  pub least : (class other : ℕ) → class < count → slice_index numbers class < turn → other < count → (other ≡ class → ⊥) → IsClassReady edge numbers (slice_index numbers class) other → before class other
  pub seen : (class other : ℕ) → class < count → other < slice_index passed class → edge other class → slice_index numbers other < turn

-- of the classes of a graph
abbrev pub AreTurnsOf : Condensation → Turns → Type 0
AreTurnsOf graph turns = AreTurns (HasEdge graph.edges) (RanksUpTo graph.ranks.items) graph.edges.nodes turns.numbers.items turns.passed.items turns.turn

-- the class is ready at the turn that is next
abbrev pub IsNextReady : Condensation → Turns → ℕ → Type 0
IsNextReady graph turns class = IsClassReady (HasEdge graph.edges) turns.numbers.items turns.turn class

-- only classes that are ready wait, each at its rank, and all of them do but those that are missing
pub record IsQueue (waits : ℕ → ℕ → Type 0) (ready missing : ℕ → Type 0) (count : ℕ) (ranks : List ℕ) : Type 0 where
  pub only : (rank class : ℕ) → waits rank class → (class < count) × (rank ≡ slice_index ranks class) × ready class
  pub all : (class : ℕ) → class < count → ready class → waits (slice_index ranks class) class ⊎ missing class

-- of the classes of a graph
abbrev pub IsQueueOf : Condensation → Turns → Queue → (ℕ → Type 0) → Type 0
IsQueueOf graph turns queue missing = IsQueue (Waits queue) (IsNextReady graph turns) missing graph.edges.nodes graph.ranks.items

-- what the turns rest on: there is no cycle, and no two classes have one rank
pub record IsRankedGraph (edge : ℕ → ℕ → Type 0) (count : ℕ) (ranks : List ℕ) : Type 0 where
  pub size : length ranks ≡ count
  pub acyclic : (a b : ℕ) → edge a b → Reach edge b a → ⊥
  pub apart : (c d : ℕ) → c < count → d < count → slice_index ranks c ≡ slice_index ranks d → c ≡ d
