-- A matrix of bits, and the graph that it stands for.
use Rattle.std.specs.Prelude.{◌≡◌, ℕ, ◌+◌, ◌*◌, ◌/◌, ◌%◌, ◌<◌, ◌==◌, Bool, List, map, slice_index}
use Rattle.std.specs.Int.{bit_at}
use Rattle.std.specs.List.{range_with_len}
use Rattle.pac_graph.specs.declared.matrix.Matrix.{Matrix}
use Rattle.pac_graph.specs.Graph.{Graph}

-- bit b of the row of a, where a row has that many words
abbrev pub bit_of : ℕ → List ℕ → ℕ → ℕ → ℕ
bit_of width words a b = bit_at (slice_index words (a * width + b / 64)) (b % 64)

-- that bit is one of the matrix's, and is set
unfoldable pub HasBit : Matrix → ℕ → ℕ → Type 0
HasBit m a b = (a < m.nodes) × (b < m.nodes) × (bit_of m.width m.words.items a b ≡ 1)

-- whether each bit of the row of a is set
abbrev pub row_of : ℕ → ℕ → List ℕ → ℕ → List Bool
row_of nodes width words a = map (λ b. bit_of width words a b == 1) (range_with_len 0 nodes)

-- the rows of all nodes
abbrev pub rows_of : ℕ → ℕ → List ℕ → List (List Bool)
rows_of nodes width words = map (λ a. row_of nodes width words a) (range_with_len 0 nodes)

-- an edge is a bit that is set
abbrev pub graph_of : Matrix → Graph
graph_of m = record { nodes = m.nodes; edges = rows_of m.nodes m.width m.words.items }
