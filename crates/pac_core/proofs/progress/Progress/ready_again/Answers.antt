-- Its set is open.
use Rattle.pac_core.proofs.progress.Progress.ready_again.Goals as goal

pub ready_in-requires : goal.ready_in-requires
ready_in-requires c = c.is_open.ensures.0 c.if-not-is_open.false
