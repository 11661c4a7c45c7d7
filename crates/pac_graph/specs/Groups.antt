-- Nodes of any kind in numbered groups: which nodes are in one group, which groups an edge leads between, and how the
-- groups are numbered.
use Rattle.std.specs.Prelude.{◌≡◌, ◌⊎◌, ◌↔◌, ℕ, ◌<◌, List, length, slice_index, Contains, AllPairs}
use Rattle.pac_graph.specs.declared.groups.Groups.{Groups}
use Rattle.pac_graph.specs.Graph.{Graph, HasEdge, ReachEachOther}

-- an edge leads from a node of the group b to one of another group c
abbrev pub IsEdgeBetween : {N : Type 0} → (N → N → Type 0) → (N → ℕ) → ℕ → ℕ → Type 0
IsEdgeBetween {N} edge group b c = (b ≡ c → ⊥) × ((m : N) × (n : N) × edge m n × (group m ≡ b) × (group n ≡ c))

-- the group b has a node that comes before each node of the group c
abbrev pub HasFirstNode : {N : Type 0} → (N → Type 0) → (N → N → Type 0) → (N → ℕ) → ℕ → ℕ → Type 0
HasFirstNode {N} IsNode before group b c = (m : N) × IsNode m × (group m ≡ b) × ((n : N) → IsNode n → group n ≡ c → before m n)

-- one pair comes before another: by the first number, and then by the second
abbrev pub IsPairBelow : ℕ × ℕ → ℕ × ℕ → Type 0
IsPairBelow p q = (p.0 < q.0) ⊎ ((p.0 ≡ q.0) × (p.1 < q.1))

-- pairs ascend, so that each stands once
abbrev pub ArePairsAscending : List (ℕ × ℕ) → Type 0
ArePairsAscending pairs = AllPairs IsPairBelow pairs

-- these are the groups that the links between nodes make, and the flow between groups
pub record AreGroups {N : Type 0} (IsNode : N → Type 0) (before link flow : N → N → Type 0) (group : N → ℕ) (count : ℕ) (pairs : List (ℕ × ℕ)) : Type 0 where
  -- the groups are numbered from 0 on, and each has a node
  pub below : (n : N) → IsNode n → group n < count
  pub used : (b : ℕ) → b < count → (n : N) × IsNode n × (group n ≡ b)
  -- two nodes are in one group exactly where each is reached from the other by links
  pub same : (m n : N) → IsNode m → IsNode n → (group m ≡ group n) ↔ ReachEachOther link m n
  -- the pairs are those between which there is flow, ascending
  pub edges : (b c : ℕ) → Contains pairs (b, c) ↔ IsEdgeBetween flow group b c
  pub ascending : ArePairsAscending pairs
  -- a group is numbered after those that lead to it
  pub rises : (b c : ℕ) → Contains pairs (b, c) → b < c
  -- of two groups that could both be next the one with the first node is
  pub first : (b c : ℕ) → b < c → c < count → ((d : ℕ) → Contains pairs (d, c) → d < b) → HasFirstNode IsNode before group b c

-- these are the groups of a graph's nodes, which come in the order of their numbers
pub record AreGroupsOf (graph : Graph) (groups : Groups) : Type 0 where
  pub each : length groups.numbers ≡ graph.nodes
  pub are : AreGroups (λ u. u < graph.nodes) ◌<◌ (HasEdge graph) (HasEdge graph) (slice_index groups.numbers) groups.count groups.edges
