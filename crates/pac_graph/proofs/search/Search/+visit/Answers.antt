-- Each edge is a step of the visit, and the visit ends in one of two ways.
use Rattle.std.proofs.Common.{◌≡◌, ℕ, ◌+◌, ◌<◌, length, take, arith, get_or, subst, sym, ◌∙◌}
use Rattle.pac_graph.specs.declared.search.Mark.TheVariants.{Fresh, Open}
use Rattle.pac_graph.specs.Graph.{HasEdge, Reach}
use Rattle.pac_graph.specs.Search.{GaveClass, changes_left}
use Rattle.pac_graph.proofs.GraphLemmas.{along, one_edge}
use Rattle.pac_graph.proofs.MarkLemmas.{mark_read}
use Rattle.pac_graph.proofs.VisitLemmas.{entered, met_open, descended, to_here, IsVisit}
use Rattle.pac_graph.proofs.EndLemmas.{left, popped}
use Rattle.pac_graph.proofs.search.Search.+visit.Goals as goal

pub loop-to-init : goal.loop-to-init
loop-to-init t c = let g = c.args.graph.now in
    let old = c.args.self.now in
    let e = c.in_ok-offset.ensures in
    rw (e.offset.1, e.stack, e.count, e.offset.0) (entered (HasEdge g) g.nodes old.marks.items old.stack.items old.count c.args.node c.requires.search c.requires.fresh c.requires.node c.requires.linked)

pub visit-requires : goal.visit-requires
visit-requires t c = let g = c.args.graph.now in
    let old = c.args.self.now in
    let l = c.loop-to in
    let to = c.in-Some.to in
    let next = c.in-Some.ensures in
    let in_marks : to < length l.self.marks.items = omega (arith, next.1, l.invariant.search.size) in
    let link : (p : ℕ) → p < length l.self.stack.items → Reach (HasEdge g) (get_or l.self.stack.items p 0) to = λ p lt. along (to_here (HasEdge g) g.nodes old.marks.items old.stack.items l.self.marks.items l.self.stack.items l.self.count c.args.node l.low l.at l.invariant p lt) (one_edge c.args.node to next.2) in
    let fewer : changes_left l.self.marks.items < t = omega (arith, l.invariant.less, c.decreases) in
    (fewer, (l.invariant.search, (next.1, (mark_read l.self.marks.items to c.index.result.now Fresh c.index.ensures c.in-Fresh.is in_marks, link))))

pub loop-to-preserved-in-Fresh : goal.loop-to-preserved-in-Fresh
loop-to-preserved-in-Fresh t c = let g = c.args.graph.now in
    let old = c.args.self.now in
    let l = c.loop-to in
    let new = c.visit.new.self in
    let next = c.in-Some.ensures in
    subst (λ low. IsVisit (HasEdge g) g.nodes old.marks.items old.stack.items new.marks.items new.stack.items new.count c.args.node low (c.in-Some.to + 1)) (sym c.min-low.ensures)
    (descended (HasEdge g) g.nodes old.marks.items old.stack.items l.self.marks.items l.self.stack.items l.self.count c.args.node l.low l.at l.invariant c.in-Some.to c.in_ok-below-in-Fresh.below new.marks.items new.stack.items new.count next.2 next.3 (c.in_ok-below-in-Fresh.ensures))

pub loop-to-preserved-in-Open : goal.loop-to-preserved-in-Open
loop-to-preserved-in-Open t c = let g = c.args.graph.now in
    let old = c.args.self.now in
    let l = c.loop-to in
    let next = c.in-Some.ensures in
    let in_marks : c.in-Some.to < length l.self.marks.items = omega (arith, next.1, l.invariant.search.size) in
    subst (λ low. IsVisit (HasEdge g) g.nodes old.marks.items old.stack.items l.self.marks.items l.self.stack.items l.self.count c.args.node low (c.in-Some.to + 1)) (sym c.min-low-in-Open.ensures)
    (met_open (HasEdge g) g.nodes old.marks.items old.stack.items l.self.marks.items l.self.stack.items l.self.count c.args.node l.low l.at l.invariant c.in-Some.to c.in-Open.there next.2 next.3 (mark_read l.self.marks.items c.in-Some.to c.index.result.now (Open c.in-Open.there) c.index.ensures c.in-Open.is in_marks))

pub close-requires-clause-count : goal.close-requires-clause-count
close-requires-clause-count t c = let search = c.loop-to.invariant.search in omega (arith, search.room, search.few)

pub returns-then-low-offset : goal.returns-then-low-offset
returns-then-low-offset t c = let g = c.args.graph.now in
    let old = c.args.self.now in
    let l = c.loop-to in
    let new = c.close.new.self in
    let z = c.close.ensures in
    let e : c.in_ok-offset.offset ≡ length old.stack.items = c.in_ok-offset.ensures.offset.0 in
    popped (HasEdge g) g.nodes old.marks.items old.stack.items l.self.marks.items l.self.stack.items l.self.count c.args.node l.low l.at l.invariant c.in_default.ensures new.marks.items new.stack.items new.count (c.if-low-offset.true ∙ e)
    (subst (λ k. GaveClass l.self.marks.items new.marks.items l.self.stack.items k (length l.self.stack.items) l.self.count) e z.marks)
    (subst (λ k. new.stack.items ≡ take k l.self.stack.items) e z.stack) z.count z.size (omega (arith, z.changes, e))

pub returns-else-low-offset : goal.returns-else-low-offset
returns-else-low-offset t c = let g = c.args.graph.now in
    let old = c.args.self.now in
    let l = c.loop-to in
    let e : c.in_ok-offset.offset ≡ length old.stack.items = c.in_ok-offset.ensures.offset.0 in
    left (HasEdge g) g.nodes old.marks.items old.stack.items l.self.marks.items l.self.stack.items l.self.count c.args.node l.low l.at l.invariant c.in_default.ensures (omega (arith, e, l.invariant.in_low, c.if-low-offset.false))
