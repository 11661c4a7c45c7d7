-- A procedure has no more names than parameters and statements.
use Rattle.std.proofs.Common.{◌≤◌, ◌+◌, ℕ, List, [], ◌∷◌, length, map, sym, subst, arith, length-append}
use Rattle.std.specs.List.{flat_map}
use Rattle.std.proofs.lemmas.List.{length-map}
use Rattle.pac_syntax.specs.declared.tree.StmtNode.{StmtNode}
use Rattle.pac_syntax.specs.declared.tree.StmtNode.TheOpen as form
use Rattle.pac_syntax.specs.declared.tree.StmtNode.TheOpen.{StmtNode-F}
use Rattle.pac_syntax.specs.declared.tree.StmtNode.TheViews.{roll-StmtNode}
use Rattle.pac_syntax.specs.declared.tree.StmtNode.TheFolds.{fold-roll-StmtNode, ind-StmtNode, map-StmtNode}
use Rattle.pac_syntax.specs.declared.tree.ProcNode.{ProcNode}
use Rattle.pac_syntax.specs.Limits.{size, size_step, sizes, total}
use Rattle.pac_types.specs.Numbering.{defined, defined_step, in_a_row, variables}

-- a statement has no more names than statements stand in it
abbrev Counted-node : Type 0
Counted-node = (node : StmtNode) × (length (defined node) ≤ size node)

abbrev nodes_of : List Counted-node → List StmtNode
nodes_of qs = map (λ q. q.0) qs

few_joined : (qs : List Counted-node) → length (in_a_row (map defined (nodes_of qs))) ≤ total (map size (nodes_of qs))
few_joined [] = omega arith
few_joined (q ∷ qs) = omega (arith, q.1, few_joined qs, length-append (defined q.0) (in_a_row (map defined (nodes_of qs))))

step_few : (y : StmtNode-F Counted-node) → length (defined_step (map-StmtNode StmtNode (List (List ℕ)) defined (map-StmtNode Counted-node StmtNode (λ q. q.0) y)))
    ≤ size_step (map-StmtNode StmtNode ℕ size (map-StmtNode Counted-node StmtNode (λ q. q.0) y))
step_few (form.Let name value) = omega arith
step_few (form.Read name table key column default) = omega arith
step_few (form.Has name table key) = omega arith
step_few (form.Put table key values) = omega arith
step_few (form.Set table key column value) = omega arith
step_few (form.Delete table key) = omega arith
step_few (form.AbortIf test) = omega arith
step_few (form.If test first second) = omega (arith, few_joined first, few_joined second, length-append (in_a_row (map defined (nodes_of first))) (in_a_row (map defined (nodes_of second))))
step_few (form.For name from to body) = omega (arith, few_joined body)

few : (node : StmtNode) → length (defined node) ≤ size node
few = ind-StmtNode (λ node. length (defined node) ≤ size node) (λ x y is. subst (λ z. length (defined (roll-StmtNode z)) ≤ size (roll-StmtNode z)) is
    (subst (λ (k : List (List ℕ) × ℕ). length k.0 ≤ k.1)
    (λ i. (
      sym (fold-roll-StmtNode (List (List ℕ)) defined_step (map-StmtNode Counted-node StmtNode (λ q. q.0) y)) i,
      sym (fold-roll-StmtNode ℕ size_step (map-StmtNode Counted-node StmtNode (λ q. q.0) y)) i,
    )) (step_few y)))

defined_few : (nodes : List StmtNode) → length (flat_map defined nodes) ≤ sizes nodes
defined_few [] = omega arith
defined_few (n ∷ ns) = omega (arith, few n, defined_few ns, length-append (defined n) (flat_map defined ns))

pub variables_few : (proc : ProcNode) → length (variables proc) ≤ length proc.params + sizes proc.body
variables_few proc = omega (arith, defined_few proc.body, length-append (map (λ param. param.name.name) proc.params) (flat_map defined proc.body), length-map proc.params (λ param. param.name.name))
