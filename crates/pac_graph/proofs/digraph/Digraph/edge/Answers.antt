-- One bit more is one edge more.
use Rattle.std.proofs.Common.{inl, inr, sym, subst}
use Rattle.pac_graph.specs.Graph.{HasEdge}
use Rattle.pac_graph.proofs.MatrixLemmas.{edge_is_bit}
use Rattle.pac_graph.proofs.digraph.Digraph.edge.Goals as goal

pub returns-clause-edges : goal.returns-clause-edges
returns-clause-edges c = λ a b.
    let old = edge_is_bit c.self.inside.matrix a b in
    let new = edge_is_bit c.set.new.self a b in
    let more = c.set.ensures.bits a b in (
      (λ e. elim (more.0 (new.0 e)) [ inl bit ↦ inl (subst (λ g. HasEdge g a b) c.self.view_is (old.1 bit)) | inr here ↦ inr here ]),
      (λ h. new.1 (more.1 (elim h [ inl e ↦ inl (old.0 (subst (λ g. HasEdge g a b) (sym c.self.view_is) e)) | inr here ↦ inr here ]))),
    )
