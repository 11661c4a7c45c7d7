-- One rank more is taken into its class; in the end each class has that of a node.
use Rattle.std.proofs.Common.{◌≡◌, ◌<◌, ◌≤◌, ℕ, get_or, ap, length, arith, subst, ◌∙◌, inl, inr}
use Rattle.std.proofs.lemmas.Grind.{get_or_default_zero}
use Rattle.pac_graph.specs.Classes.{class_count}
use Rattle.pac_graph.proofs.ClassLemmas.{below_count}
use Rattle.pac_graph.proofs.CondensedLemmas.{one_ranked}
use Rattle.pac_graph.proofs.condensation.least_ranks.Goals as goal

pub index-requires : goal.index-requires
index-requires c = let cs = c.args.classes.now in
    let e = c.items-numbers.ensures in
    let node = c.loop-node.node in
    let within : node < length cs = omega (arith, c.loop-node-test.true, ap length e) in
    let is : c.from-class.result ≡ get_or cs node 0 = c.from-class.ensures ∙ ap (λ ns. get_or ns node 0) e in
    omega (arith, is, below_count cs node within, c.loop-node.invariant.size, c.loop-node.ranks.ok)

pub index_mut-requires : goal.index_mut-requires
index_mut-requires c = let cs = c.args.classes.now in
    let e = c.items-numbers.ensures in
    let node = c.loop-node.node in
    let within : node < length cs = omega (arith, c.loop-node-test.true, ap length e) in
    let is : c.from-class.result ≡ get_or cs node 0 = c.from-class.ensures ∙ ap (λ ns. get_or ns node 0) e in
    omega (arith, is, below_count cs node within, c.loop-node.invariant.size, c.loop-node.ranks.ok)

pub loop-node-preserved : goal.loop-node-preserved
loop-node-preserved c = let cs = c.args.classes.now in
    let e = c.items-numbers.ensures in
    let ranks = c.loop-node.ranks.items in
    let node = c.loop-node.node in
    let class = c.from-class.result in
    let within : node < length cs = omega (arith, c.loop-node-test.true, ap length e) in
    let is : class ≡ get_or cs node 0 = c.from-class.ensures ∙ ap (λ ns. get_or ns node 0) e in
    let below : class < class_count cs = omega (arith, is, below_count cs node within) in
    let old : c.index.result.now ≡ get_or ranks class 0 = c.index.ensures ∙ get_or_default_zero ranks class c.index.result.now (omega (arith, below, c.loop-node.invariant.size)) in
    one_ranked cs c.args.order.now ranks (class_count cs) node class c.index.result.now c.min.result c.loop-node.invariant.size is below old c.min.ensures c.loop-node.invariant

pub returns : goal.returns
returns c = let cs = c.args.classes.now in
    let order = c.args.order.now in
    let ranks = c.loop-node.ranks.items in
    let l = c.loop-node.invariant in
    let reached : (u : ℕ) → u < length cs → u < c.loop-node.node = λ u lt. omega (arith, lt, c.loop-node-test.false, ap length c.items-numbers.ensures) in
    record {
      size = l.size;
      least = λ u lt. l.least u (reached u lt);
      node = λ k lt. elim (l.node k lt) [
        | inr (u, before, eu, er) ↦ (u, omega (arith, before, c.loop-node.auto.node-end, ap length c.items-numbers.ensures), eu, er)
        | inl most ↦ (let v = c.count.ensures.used k lt in
            let low : get_or ranks k 0 ≤ get_or order v.0 0 = subst (λ x. get_or ranks x 0 ≤ get_or order v.0 0) v.2 (l.least v.0 (reached v.0 v.1)) in
            let high : get_or order v.0 0 < 18446744073709551616 = omega (arith, c.type_inv.order v.0) in
            (v.0, v.1, v.2, omega (arith, low, high, most)))
      ];
    }
