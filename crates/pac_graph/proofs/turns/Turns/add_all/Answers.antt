-- One class more waits, if it is ready.
use Rattle.std.proofs.Common.{◌<◌, ◌≤◌, ◌+◌, ap, arith}
use Rattle.pac_graph.specs.Graph.{HasEdge}
use Rattle.pac_graph.specs.Turns.{Waits, IsNextReady}
use Rattle.pac_graph.proofs.QueueLemmas.{one_added, same_turns}
use Rattle.pac_graph.proofs.turns.Turns.add_all.Goals as goal

pub loop-class-preserved : goal.loop-class-preserved
loop-class-preserved c = let g = c.args.graph.now in
    let l = c.loop-class in
    let e = c.in_ok-add_if_ready.ensures in
    let new = c.add_if_ready.new.self in
    let waits = Waits c.add_if_ready.new.queue in
    let lt : l.class < g.edges.nodes = omega (arith, c.loop-class-test.true, c.nodes-class-end.ensures.nodes) in
    let q = one_added (Waits l.queue) waits (IsNextReady g l.self) (λ k. l.class ≤ k) (λ k. l.class + 1 ≤ k) g.edges.nodes g.ranks.items l.class lt c.requires.ordered.apart e.only e.kept e.added (λ k lk is miss ne. omega (arith, miss, ne)) l.invariant.queue in
    record { turns = e.turns; queue = same_turns (HasEdge g.edges) waits (λ k. l.class + 1 ≤ k) g.edges.nodes g.ranks.items l.self.numbers.items new.numbers.items l.self.turn new.turn (ap (λ v. v.items) e.numbers) e.turn q }
