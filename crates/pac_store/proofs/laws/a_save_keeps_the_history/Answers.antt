-- One device is called at a time, and nothing is said of the log device that isn't active.
use Rattle.pac_store.proofs.SavingLemmas.{begun, beginning, closed, closing, published, publishing, still-leaves}
use Rattle.pac_store.proofs.laws.a_save_keeps_the_history.Goals as goal

pub returns-clause-closing : goal.returns-clause-closing
returns-clause-closing k = λ text c h known devices new is run. closing text c h known devices is new run

pub returns-clause-closed : goal.returns-clause-closed
returns-clause-closed k = λ text c h known devices new is shut. closed text c h known devices is new shut

pub returns-clause-beginning : goal.returns-clause-beginning
returns-clause-beginning k = λ text c h known devices new is run. beginning text c h known devices is new run

pub returns-clause-begun : goal.returns-clause-begun
returns-clause-begun k = λ text c h known devices new is. begun text c h known devices is new

pub returns-clause-publishing : goal.returns-clause-publishing
returns-clause-publishing k = λ text c h known devices held new is ready next run. publishing text c h known devices is held ready next new run

pub returns-clause-published : goal.returns-clause-published
returns-clause-published k = λ text c h known devices held new is ready next opens. published text c h known devices is held ready next new opens

pub returns-clause-still : goal.returns-clause-still
returns-clause-still k = λ text c h known devices is. still-leaves text c h known devices is
