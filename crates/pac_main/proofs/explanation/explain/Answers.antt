-- What is said of the tree is said of the text.
use Rattle.pac_main.proofs.ExplainLemmas.{explained_text, unexplained_text}
use Rattle.pac_main.proofs.explanation.explain.Goals as goal

pub returns-in-Ok-clause-ok : goal.returns-in-Ok-clause-ok
returns-in-Ok-clause-ok c = explained_text c.args.with_text c.args.text.now c.in-Ok.tree c.explain_tree.result c.in-Ok.ensures.reads c.explain_tree.ensures.ok

pub returns-in-Ok-clause-fault : goal.returns-in-Ok-clause-fault
returns-in-Ok-clause-fault c = λ fault is. unexplained_text c.args.text.now c.in-Ok.tree fault c.in-Ok.ensures.reads (c.explain_tree.ensures.fault fault is)
