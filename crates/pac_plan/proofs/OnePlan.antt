-- Programs and tables have one plan: its blocks are groups of their nodes, and flow leads between nodes.
use Rattle.std.proofs.Common.{◌≡◌, ℕ, ◌<◌, List, [], map, length, get_or, Some, sym, ap, ◌∙◌, subst, inl, inr, arith}
use Rattle.std.specs.Prelude.{slice_get}
use Rattle.std.proofs.lemmas.List.{ext_get_or, get_or-map, length-map}
use Rattle.std.proofs.lemmas.Option.{get_or_from_slice_get}
use Rattle.pac_base.proofs.ItemLemmas.{there, item, item_at, inside}
use Rattle.pac_ops.specs.declared.program.Program.{Program}
use Rattle.pac_ops.specs.declared.shapes.TableTypes.{TableTypes}
use Rattle.pac_ops.specs.Dependencies.{IsFlow}
use Rattle.pac_graph.specs.Groups.{AreGroups}
use Rattle.pac_graph.proofs.OneGrouping.{Grouping, same_group, same_count, same_edges}
use Rattle.pac_plan.specs.declared.parts.PlanParts.{PlanParts}
use Rattle.pac_plan.specs.Nodes.{Node, Operation, VirtualWrite, IsNode, ComesBefore, Flows, IsNodeLink}
use Rattle.pac_plan.specs.Analysis.{IsAnalysis, block_in}

-- parts that are the analysis of these programs and tables
pub record Analysed (programs : List Program) (tables : List TableTypes) : Type 0 where
  pub parts : PlanParts
  pub analysis : IsAnalysis parts
  pub same_programs : parts.programs ≡ programs
  pub same_tables : parts.tables ≡ tables

-- of two nodes only one comes before the other
one_order : (m n : Node) → ComesBefore m n → ComesBefore n m → ⊥
one_order (Operation p i) (Operation q j) (inl lt) (inl gt) = omega (arith, lt, gt)
one_order (Operation p i) (Operation q j) (inl lt) (inr back) = omega (arith, lt, back.0)
one_order (Operation p i) (Operation q j) (inr same) (inl gt) = omega (arith, same.0, gt)
one_order (Operation p i) (Operation q j) (inr same) (inr back) = omega (arith, same.1, back.1)
one_order (Operation p i) (VirtualWrite t) lt gt = absurd gt
one_order (VirtualWrite s) (Operation q j) lt gt = absurd lt
one_order (VirtualWrite s) (VirtualWrite t) lt gt = omega (arith, lt, gt)

same_parts : (a b : PlanParts) → a.programs ≡ b.programs → a.tables ≡ b.tables → a.block_of ≡ b.block_of → a.homes ≡ b.homes → a.blocks ≡ b.blocks → a.edges ≡ b.edges → a ≡ b
same_parts a b programs tables block_of homes blocks edges =
    ap (λ (x : List Program). of x a.tables a.block_of a.homes a.blocks a.edges) programs
    ∙ ap (λ (x : List TableTypes). of b.programs x a.block_of a.homes a.blocks a.edges) tables
    ∙ ap (λ (x : List (List ℕ)). of b.programs b.tables x a.homes a.blocks a.edges) block_of
    ∙ ap (λ (x : List ℕ). of b.programs b.tables b.block_of x a.blocks a.edges) homes
    ∙ ap (λ x. of b.programs b.tables b.block_of b.homes x a.edges) blocks
    ∙ ap (λ (x : List (ℕ × ℕ)). of b.programs b.tables b.block_of b.homes b.blocks x) edges
  where
    of : List Program → List TableTypes → List (List ℕ) → List ℕ → ℕ → List (ℕ × ℕ) → PlanParts
    of programs tables block_of homes blocks edges = record { programs = programs; tables = tables; block_of = block_of; homes = homes; blocks = blocks; edges = edges }

module _ (programs : List Program) (tables : List TableTypes) where
  ends : (m n : Node) → Flows programs m n → IsNode programs (length tables) m × IsNode programs (length tables) n
  ends (Operation p i) (Operation q j) flows =
      let found = item programs p (λ program. IsFlow program.ops i j) flows.1 in
      let at = inside found.0.ops j _ found.2.1.2 in (
        there programs p found.0 (λ program. i < length program.ops) found.1 (omega (arith, found.2.0, at)),
        subst (λ r. IsNode programs (length tables) (Operation r j)) flows.0 (there programs p found.0 (λ program. j < length program.ops) found.1 at),
      )
  ends (Operation p i) (VirtualWrite t) flows = absurd flows
  ends (VirtualWrite s) n flows = absurd flows

  abbrev as_grouping : Analysed programs tables → Grouping (IsNode programs (length tables)) ComesBefore (IsNodeLink programs (length tables)) (Flows programs)
  as_grouping a = record {
    group = block_in a.parts;
    count = a.parts.blocks;
    pairs = a.parts.edges;
    are = subst (λ (ts : List TableTypes). AreGroups (IsNode programs (length ts)) ComesBefore (IsNodeLink programs (length ts)) (Flows programs) (block_in a.parts) a.parts.blocks a.parts.edges) a.same_tables
        (subst (λ (ps : List Program). AreGroups (IsNode ps (length a.parts.tables)) ComesBefore (IsNodeLink ps (length a.parts.tables)) (Flows ps) (block_in a.parts) a.parts.blocks a.parts.edges) a.same_programs a.analysis.groups);
  }

  rows : (a : Analysed programs tables) → length a.parts.block_of ≡ length programs
  rows a = sym (length-map a.parts.block_of (λ (ns : List ℕ). length ns)) ∙ ap (λ (ns : List ℕ). length ns) a.analysis.each
      ∙ length-map a.parts.programs (λ (program : Program). length program.ops) ∙ ap (λ (ps : List Program). length ps) a.same_programs

  row : (a : Analysed programs tables) (p : ℕ) (program : Program) → p < length programs → slice_get programs p ≡ Some program → length (get_or a.parts.block_of p []) ≡ length program.ops
  row a p program lt is =
      sym (get_or-map (λ (ns : List ℕ). length ns) a.parts.block_of p [] 0 (omega (arith, lt, rows a)))
      ∙ ap (λ (ns : List ℕ). get_or ns p 0) (a.analysis.each ∙ ap (λ (ps : List Program). map (λ program. length program.ops) ps) a.same_programs)
      ∙ get_or-map (λ (program : Program). length program.ops) programs p program 0 lt
      ∙ ap (λ (program : Program). length program.ops) (get_or_from_slice_get programs p program program is)

  homes : (a : Analysed programs tables) → length a.parts.homes ≡ length tables
  homes a = a.analysis.homed ∙ ap (λ (ts : List TableTypes). length ts) a.same_tables

  pub one_plan : (a b : Analysed programs tables) → a.parts ≡ b.parts
  one_plan a b =
      let one = as_grouping a in
      let other = as_grouping b in
      same_parts a.parts b.parts
      (a.same_programs ∙ sym b.same_programs)
      (a.same_tables ∙ sym b.same_tables)
      (ext_get_or [] a.parts.block_of b.parts.block_of (rows a ∙ sym (rows b)) (λ p lt.
      let there_is = item_at programs p (omega (arith, lt, rows a)) in
      let program = there_is.0 in
      let within : p < length programs = omega (arith, lt, rows a) in
      ext_get_or 0 (get_or a.parts.block_of p []) (get_or b.parts.block_of p []) (row a p program within there_is.1 ∙ sym (row b p program within there_is.1)) (λ i less.
      sym (same_group (ends) one_order one other (Operation p i) (there programs p program (λ program. i < length program.ops) there_is.1 (omega (arith, less, row a p program within there_is.1)))))))
      (ext_get_or 0 a.parts.homes b.parts.homes (homes a ∙ sym (homes b)) (λ t lt. sym (same_group (ends) one_order one other (VirtualWrite t) (omega (arith, lt, homes a)))))
      (same_count (ends) one_order one other)
      (same_edges (ends) one_order one other)
