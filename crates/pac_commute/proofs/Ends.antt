-- A machine whose pieces are all finished has the replayed tables and their first note.
use Rattle.std.proofs.Common.{ap, ◌∙◌}
use Rattle.pac_plan.specs.Pieces.{Present}
use Rattle.pac_commute.specs.Machine.{MachineEnds}
use Rattle.pac_commute.proofs.Steps.{in_tables}
use Rattle.pac_commute.proofs.PlanFacts.{ends_as_replayed}

pub machine_ends : MachineEnds
machine_ends job is m inv all =
    let end = ends_as_replayed job.parts is job.first m.batches inv.run_on (in_tables job m inv) job.tables m.finished all in
    (ap (λ (z : Present). z.tables) inv.now ∙ end.0, ap (λ (z : Present). z.note) inv.now ∙ end.1)
