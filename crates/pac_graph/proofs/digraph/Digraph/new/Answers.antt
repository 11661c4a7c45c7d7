-- A matrix with no bit is a graph with no edge.
use Rattle.pac_graph.proofs.MatrixLemmas.{edge_is_bit}
use Rattle.pac_graph.proofs.digraph.Digraph.new.Goals as goal

pub returns-clause-empty : goal.returns-clause-empty
returns-clause-empty c = λ a b e. c.in_ok-matrix.ensures.empty a b ((edge_is_bit c.in_ok-matrix.matrix a b).0 e)
