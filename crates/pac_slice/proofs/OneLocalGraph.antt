-- The operations of a procedure make one local graph: its slices are groups of them, and flow leads between operations.
use Rattle.std.proofs.Common.{◌≡◌, ℕ, ◌<◌, List, length, get_or, sym, ap, ◌∙◌, arith}
use Rattle.std.proofs.lemmas.List.{ext_get_or}
use Rattle.pac_base.proofs.ItemLemmas.{inside}
use Rattle.pac_ops.specs.declared.program.FlatOp.{FlatOp}
use Rattle.pac_ops.specs.Dependencies.{IsFlow}
use Rattle.pac_graph.specs.Classes.{class_count}
use Rattle.pac_graph.proofs.OneGrouping.{Grouping, same_group, same_edges}
use Rattle.pac_slice.specs.declared.local_graph.LocalGraph.{LocalGraph}
use Rattle.pac_slice.specs.Slices.{AreSlices, IsLink}

same_graph : (a b : LocalGraph) → a.slice_of ≡ b.slice_of → a.edges ≡ b.edges → a ≡ b
same_graph a b slices edges = ap (λ (ns : List ℕ). same_of ns a.edges) slices ∙ ap (λ (es : List (ℕ × ℕ)). same_of b.slice_of es) edges
  where
    same_of : List ℕ → List (ℕ × ℕ) → LocalGraph
    same_of ns es = record { slice_of = ns; edges = es }

module _ (ops : List FlatOp) where
  ends : (i j : ℕ) → IsFlow ops i j → (i < length ops) × (j < length ops)
  ends i j flow = let at = inside ops j _ flow.1.2 in (omega (arith, flow.0, at), at)

  abbrev as_grouping : (graph : LocalGraph) → AreSlices ops graph → Grouping (λ i. i < length ops) ◌<◌ (IsLink ops) (IsFlow ops)
  as_grouping graph are = record { group = λ i. get_or graph.slice_of i 0; count = class_count graph.slice_of; pairs = graph.edges; are = are.groups }

  pub one_local_graph : (a b : LocalGraph) → AreSlices ops a → AreSlices ops b → a ≡ b
  one_local_graph a b are others =
      let one = as_grouping a are in
      let other = as_grouping b others in
      let order : (i j : ℕ) → i < j → j < i → ⊥ = λ i j lt gt. omega (arith, lt, gt) in
      same_graph a b
      (ext_get_or 0 a.slice_of b.slice_of (are.each ∙ sym others.each) (λ i lt. sym (same_group ends order one other i (omega (arith, lt, are.each)))))
      (same_edges ends order one other)
