-- By induction over turns, two numberings have given the same classes a number before each turn.
use Rattle.pac_graph.proofs.LawLemmas.{same_numbers}
use Rattle.pac_graph.proofs.laws.one_numbering.Goals as goal

pub returns : goal.returns
returns c = same_numbers c.args.graph.now c.args.classes.now c.requires.classes c.args.order.now c.args.numbers.now c.args.others.now c.requires.numbers c.requires.others
