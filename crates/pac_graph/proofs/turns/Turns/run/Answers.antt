-- The class that is taken out is the least that is ready; where none is left, all have their numbers.
use Rattle.std.proofs.Common.{◌+◌, set}
use Rattle.pac_graph.specs.Graph.{HasEdge}
use Rattle.pac_graph.specs.Turns.{RanksUpTo, Waits}
use Rattle.pac_graph.proofs.DescentLemmas.{all_had_turns}
use Rattle.pac_graph.proofs.TurnLemmas.{finished}
use Rattle.pac_graph.proofs.QueueLemmas.{none_ready, least_ready, turn_over, same_turns}
use Rattle.pac_graph.proofs.turns.Turns.run.Goals as goal

pub give-requires-clause-class : goal.give-requires-clause-class
give-requires-clause-class c = (c.loop-class.invariant.queue.only c.in-Some.field-0-0 c.in-Some.class c.in-Some.ensures.least.0).0

pub give-requires-clause-ready : goal.give-requires-clause-ready
give-requires-clause-ready c = (c.loop-class.invariant.queue.only c.in-Some.field-0-0 c.in-Some.class c.in-Some.ensures.least.0).2

pub give-requires-clause-least : goal.give-requires-clause-least
give-requires-clause-least c = let g = c.args.graph.now in
    let t = c.loop-class.turns in
    λ o lo ne r. least_ready g.edges (RanksUpTo g.ranks.items) t.numbers.items t.passed.items t.turn g.ranks.items c.requires c.loop-class.invariant.turns (Waits c.loop-class.queue) c.loop-class.invariant.queue c.in-Some.field-0-0 c.in-Some.class c.in-Some.ensures.least.0 c.in-Some.ensures.least.1 o lo r

pub add_targets-requires-clause-queue : goal.add_targets-requires-clause-queue
add_targets-requires-clause-queue c = let g = c.args.graph.now in
    let t = c.loop-class.turns in
    let new = c.give.new.self in
    let over = turn_over g.edges (RanksUpTo g.ranks.items) t.numbers.items t.passed.items t.turn g.ranks.items c.requires c.loop-class.invariant.turns (Waits c.loop-class.queue) c.loop-class.invariant.queue c.in-Some.field-0-0 c.in-Some.class c.in-Some.ensures.least.0 (Waits c.pop.new.self) c.in-Some.ensures.left in
    same_turns (HasEdge g.edges) (Waits c.pop.new.self) (HasEdge g.edges c.in-Some.class) g.edges.nodes g.ranks.items (set t.numbers.items c.in-Some.class t.turn) new.numbers.items (t.turn + 1) new.turn c.give.ensures.numbers c.give.ensures.turn over

pub returns : goal.returns
returns c = let g = c.args.graph.now in
    let t = c.loop-class.turns in
    let none = none_ready g.edges (RanksUpTo g.ranks.items) t.numbers.items t.passed.items t.turn g.ranks.items c.requires c.loop-class.invariant.turns (Waits c.loop-class.queue) c.loop-class.invariant.queue c.in_default.ensures.least in
    finished (HasEdge g.edges) (RanksUpTo g.ranks.items) g.edges.nodes t.numbers.items t.passed.items t.turn c.loop-class.invariant.turns (all_had_turns g.edges c.requires.acyclic t.numbers.items t.turn none)
