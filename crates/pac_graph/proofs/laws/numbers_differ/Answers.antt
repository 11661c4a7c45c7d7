-- At each turn one class is the least.
use Rattle.pac_graph.proofs.LawLemmas.{same_turn}
use Rattle.pac_graph.proofs.laws.numbers_differ.Goals as goal

pub returns : goal.returns
returns c = same_turn c.args.graph.now c.args.classes.now c.args.order.now c.args.numbers.now c.requires
