-- The class gets the turn that is next.
use Rattle.pac_graph.specs.Graph.{HasEdge}
use Rattle.pac_graph.specs.Turns.{RanksUpTo}
use Rattle.pac_graph.proofs.TurnLemmas.{given}
use Rattle.pac_graph.proofs.turns.Turns.give.Goals as goal

pub returns-clause-turns : goal.returns-clause-turns
returns-clause-turns c = let g = c.args.graph.now in
    let t = c.args.self.now in
    given (HasEdge g.edges) (RanksUpTo g.ranks.items) g.edges.nodes t.numbers.items t.passed.items t.turn c.requires.turns c.args.class c.requires.class c.requires.ready c.requires.least
