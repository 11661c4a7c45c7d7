-- The set from which a piece was taken last is looked at first: none before it is ready.
use Rattle.pac_core.proofs.NextReady.{next_here}
use Rattle.pac_core.proofs.progress.Progress.next_ready.Goals as goal

pub returns-in-Some-clause-next : goal.returns-in-Some-clause-next
returns-in-Some-clause-next c = λ job keeps seen. (next_here job c.args.self.now keeps c.args.self.now.recent c.in-Some.ensures.stands seen c.in-Some.piece c.in-Some.ensures.picked, c.in-Some.ensures)
