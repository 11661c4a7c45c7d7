-- What the search has found are the classes.
use Rattle.std.proofs.Common.{◌≡◌, ◌<◌, length, arith, ap, subst, ◌∙◌}
use Rattle.pac_graph.specs.declared.search.Mark.TheVariants.{Done}
use Rattle.pac_graph.specs.Search.{mark_of}
use Rattle.pac_graph.proofs.ClassLemmas.{found_classes, found_count}
use Rattle.pac_graph.proofs.digraph.Digraph.classes.Goals as goal

pub class_numbers-requires-clause-done : goal.class_numbers-requires-clause-done
class_numbers-requires-clause-done c = let found = c.in_ok-search.ensures in
    let e = c.deref.ensures.value in
    λ u lt. (let d = found.done u (omega (arith, lt, ap length e, found.search.size)) in (d.0, ap (λ ms. mark_of ms u) e ∙ d.1))

pub class_numbers-requires-clause-fits : goal.class_numbers-requires-clause-fits
class_numbers-requires-clause-fits c = let search = c.in_ok-search.ensures.search in
    λ u class is. (let lt : class < c.in_ok-search.search.count = search.below u class (subst (λ ms. mark_of ms u ≡ Done class) c.deref.ensures.value is) in omega (arith, lt, search.room, search.few))

pub invariant_of-result : goal.invariant_of-result
invariant_of-result c = let s = c.in_ok-search.search in
    let e = c.deref.ensures.value in
    found_count c.args.self.now s.marks.items s.stack.items s.count c.in_ok-numbers.numbers.items c.in_ok-search.ensures (c.in_ok-numbers.ensures.length ∙ ap length e) (λ u k is. c.in_ok-numbers.ensures.number u k (ap (λ ms. mark_of ms u) e ∙ is))

pub returns : goal.returns
returns c = let s = c.in_ok-search.search in
    let e = c.deref.ensures.value in
    found_classes c.args.self.now s.marks.items s.stack.items s.count c.in_ok-numbers.numbers.items c.in_ok-search.ensures (c.in_ok-numbers.ensures.length ∙ ap length e) (λ u k is. c.in_ok-numbers.ensures.number u k (ap (λ ms. mark_of ms u) e ∙ is))
