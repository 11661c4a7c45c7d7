-- The type keeps that each class has a node.
use Rattle.std.proofs.Common.{subst}
use Rattle.pac_graph.specs.Classes.{class_count, HaveNodes}
use Rattle.pac_graph.proofs.classes.Classes.count.Goals as goal

pub returns-clause-used : goal.returns-clause-used
returns-clause-used c = let kept = c.self.invariant in
    subst (λ cs. HaveNodes cs (class_count cs)) c.self.view_is (subst (λ n. HaveNodes c.self.inside.numbers.items n) kept.is kept.used)
