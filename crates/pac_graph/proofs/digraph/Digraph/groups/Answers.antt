-- The classes as they are numbered are the groups.
use Rattle.std.proofs.Common.{◌≡◌, ◌↔◌, ℕ, ◌<◌, length, get_or, sym, ap, ◌∙◌, subst, arith}
use Rattle.std.specs.Prelude.{Contains, slice_index}
use Rattle.pac_graph.specs.Graph.{HasEdge}
use Rattle.pac_graph.specs.Classes.{class_count, HaveNodes}
use Rattle.pac_graph.specs.Groups.{AreGroups, IsEdgeBetween}
use Rattle.pac_graph.specs.Numbering.{IsNumbering}
use Rattle.pac_graph.proofs.ClassLemmas.{below_count}
use Rattle.pac_graph.proofs.GroupLemmas.{numbered_groups}
use Rattle.pac_graph.proofs.digraph.Digraph.groups.Goals as goal

pub renumbered-requires : goal.renumbered-requires
renumbered-requires c = let cs = c.in_ok-classes.classes in
    let items = c.items.ensures in
    let size : length c.deref-2.result.now ≡ class_count cs = ap length c.deref-2.ensures.value ∙ c.in_ok-turns.ensures.size in
    λ u lt. (let within : u < length cs = omega (arith, lt, ap length items) in omega (arith, below_count cs u within, size, ap (λ ns. get_or ns u 0) items))

pub edges_between-requires-clause-below : goal.edges_between-requires-clause-below
edges_between-requires-clause-below c = let cs = c.in_ok-classes.classes in
    let turns = c.in_ok-turns.turns.items in
    let items = c.items.ensures in
    let value = c.deref-3.ensures.value in
    λ u lt.
    let within : u < length c.items.result.now = omega (arith, lt, ap length value, c.in_ok-numbers.ensures.length) in
    let in_classes : u < length cs = omega (arith, within, ap length items) in
    let is : get_or c.deref-3.result.now u 0 ≡ get_or turns (get_or cs u 0) 0 = ap (λ ns. get_or ns u 0) value
    ∙ (c.in_ok-numbers.ensures.each u within ∙ (ap (λ ts. get_or ts (get_or c.items.result.now u 0) 0) c.deref-2.ensures.value ∙ ap (λ ns. get_or turns (get_or ns u 0) 0) items)) in
    let below : get_or turns (get_or cs u 0) 0 < class_count cs = c.in_ok-turns.ensures.below (get_or cs u 0) (below_count cs u in_classes) in
    omega (arith, is, below, c.count.ensures.count)

pub returns : goal.returns
returns c = let g = c.args.self.now in
    let cs = c.in_ok-classes.classes in
    let order = c.in_ok-ranks.ranks.items in
    let turns = c.in_ok-turns.turns.items in
    let numbers = c.in_ok-numbers.numbers.items in
    let pairs = c.in_ok-edges.edges in
    let items : c.items.result.now ≡ cs = c.items.ensures in
    let numbering : IsNumbering g cs order turns = subst (λ os. IsNumbering g cs os turns) c.deref.ensures.value c.in_ok-turns.ensures in
    let ranks : (u : ℕ) → u < g.nodes → get_or order u 0 ≡ u = λ u lt. c.in_ok-ranks.ensures.each u (omega (arith, lt, c.nodes.ensures.nodes)) in
    let each : (u : ℕ) → u < length cs → get_or numbers u 0 ≡ get_or turns (get_or cs u 0) 0 = subst (λ xs. (u : ℕ) → u < length xs → get_or numbers u 0 ≡ get_or turns (get_or xs u 0) 0) items
    (subst (λ ts. (u : ℕ) → u < length c.items.result.now → get_or numbers u 0 ≡ get_or ts (get_or c.items.result.now u 0) 0) c.deref-2.ensures.value c.in_ok-numbers.ensures.each) in
    let between : (a b : ℕ) → HasEdge c.in_ok-between.between a b ↔ IsEdgeBetween (HasEdge g) (slice_index numbers) a b =
    subst (λ ns. (a b : ℕ) → HasEdge c.in_ok-between.between a b ↔ IsEdgeBetween (HasEdge g) (slice_index ns) a b) c.deref-3.ensures.value c.in_ok-between.ensures.edges in
    let lists : (a b : ℕ) → Contains pairs (a, b) ↔ IsEdgeBetween (HasEdge g) (slice_index numbers) a b = λ a b. (
      (λ h. (between a b).0 ((c.in_ok-edges.ensures.each a b).0 h)),
      (λ e. (c.in_ok-edges.ensures.each a b).1 ((between a b).1 e)),
    ) in
    let have : HaveNodes cs (class_count cs) = c.count.ensures.used in
    let groups : AreGroups (λ u. u < g.nodes) ◌<◌ (HasEdge g) (HasEdge g) (slice_index numbers) (class_count cs) pairs =
    numbered_groups g cs order turns numbers pairs c.in_ok-classes.ensures numbering ranks each have lists c.in_ok-edges.ensures.ascending in
    let counted : AreGroups (λ u. u < g.nodes) ◌<◌ (HasEdge g) (HasEdge g) (slice_index numbers) c.count-2.result pairs =
    subst (λ k. AreGroups (λ u. u < g.nodes) ◌<◌ (HasEdge g) (HasEdge g) (slice_index numbers) k pairs) (sym c.count-2.ensures.count) groups in
    record {
      each = ap length c.listed.ensures ∙ (c.in_ok-numbers.ensures.length ∙ (ap length items ∙ c.in_ok-classes.ensures.each));
      are = subst (λ ns. AreGroups (λ u. u < g.nodes) ◌<◌ (HasEdge g) (HasEdge g) (slice_index ns) c.count-2.result pairs) (sym c.listed.ensures) counted;
    }
