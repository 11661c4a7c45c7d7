-- Directed graphs, and what is reached in them.
use Rattle.std.specs.Prelude.{ℕ, ◌<◌, Bool, false, IsTrue, List, [], slice_index_or, refl}
use Rattle.std.specs.Coded.{Coded, code_by, coded×, coded_ℕ, coded_bool, coded_list}

-- how many nodes there are, and for each node a row that says of each node whether an edge leads there
pub record Graph : Type 0 where
  pub nodes : ℕ
  pub edges : List (List Bool)

-- how these are told apart
abbrev pub graph_code : Coded Graph
graph_code = code_by (ℕ × List (List Bool)) (coded× coded_ℕ (coded_list (coded_list coded_bool))) (λ g. (g.nodes, g.edges)) (λ p. record { nodes = p.0; edges = p.1 }) (λ g. refl)

-- an edge leads from a to b
unfoldable pub HasEdge : Graph → ℕ → ℕ → Type 0
HasEdge g a b = (a < g.nodes) × (b < g.nodes) × IsTrue (slice_index_or (slice_index_or g.edges a []) b false)

-- b is reached from a by edges, by none at all if b is a; nodes are of any kind
pub data Reach {N : Type 0} (edge : N → N → Type 0) : N → N → Type 0 where
  Here : (a : N) → Reach edge a a
  Onward : (a b c : N) → edge a b → Reach edge b c → Reach edge a c

-- each of the two is reached from the other
abbrev pub ReachEachOther : {N : Type 0} → (N → N → Type 0) → N → N → Type 0
ReachEachOther edge a b = Reach edge a b × Reach edge b a
