-- One target more waits, if it is ready.
use Rattle.std.proofs.Common.{ℕ, ◌≤◌, ◌+◌, ap, arith, inl, inr, ◌∙◌}
use Rattle.std.proofs.lemmas.Bool.{cases_lt}
use Rattle.pac_graph.specs.Graph.{HasEdge}
use Rattle.pac_graph.specs.Turns.{Waits, IsNextReady}
use Rattle.pac_graph.proofs.QueueLemmas.{one_added, same_turns}
use Rattle.pac_graph.proofs.turns.Turns.add_targets.Goals as goal

pub loop-to-preserved : goal.loop-to-preserved
loop-to-preserved c = let g = c.args.graph.now in
    let l = c.loop-to in
    let to = c.in-Some.to in
    let next = c.in-Some.ensures in
    let e = c.in_ok-add_if_ready.ensures in
    let new = c.add_if_ready.new.self in
    let waits = Waits c.add_if_ready.new.queue in
    let left : ℕ → Type 0 = λ k. (to + 1 ≤ k) × HasEdge g.edges c.args.class k in
    let q = one_added (Waits l.queue) waits (IsNextReady g l.self) (λ k. (l.at ≤ k) × HasEdge g.edges c.args.class k) left g.edges.nodes g.ranks.items to next.1 c.requires.ordered.apart e.only e.kept e.added
    (λ k lk is miss ne. elim (cases_lt k to) [ inl lt ↦ absurd (next.3 k miss.0 lt miss.1) | inr ge ↦ (omega (arith, ge, ne), miss.1) ]) l.invariant.queue in
    record { turns = e.turns; numbers = e.numbers ∙ l.invariant.numbers; queue = same_turns (HasEdge g.edges) waits left g.edges.nodes g.ranks.items l.self.numbers.items new.numbers.items l.self.turn new.turn (ap (λ v. v.items) e.numbers) e.turn q }
