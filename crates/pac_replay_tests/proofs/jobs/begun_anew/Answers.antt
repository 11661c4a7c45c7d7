-- The job is that of a core over tables without rows.
use Rattle.std.proofs.Common.{◌≡◌, sym, subst, ◌∙◌}
use Rattle.std.specs.FinMap.{empty}
use Rattle.pac_ops.specs.Shapes.{RowsFit}
use Rattle.pac_piece.proofs.ArgumentWork.{none_fit}
use Rattle.pac_replay_tests.proofs.jobs.begun_anew.Goals as goal

pub from_job-requires-clause-fit : goal.from_job-requires-clause-fit
from_job-requires-clause-fit g c =
    let job = c.in-Ok.job in
    let none : g.R.Rows.held job.opening ≡ empty = c.in-Ok.ensures.held_is ∙ c.requires in
    subst (RowsFit job.plan.tables) (sym none) (none_fit job.plan.tables)
