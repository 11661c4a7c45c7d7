-- A machine whose opening tables fit stays fit.
use Rattle.std.proofs.Common.{sym, subst}
use Rattle.pac_ops.specs.StaysFit.{StaysFitAt}
use Rattle.pac_plan.specs.Pieces.{Present, of_txn, ops}
use Rattle.pac_commute.specs.PartialFits.{PresentFits}
use Rattle.pac_commute.specs.Machine.{world_at, MachineFits}
use Rattle.pac_commute.proofs.FitLemmas.{partial_stays_fit}

pub machine_fits : MachineFits
machine_fits job is rows m inv =
    let fit = partial_stays_fit job.parts is job.first m.batches inv.run_on inv.fit job.tables rows m.finished inv.closed in (
      subst (PresentFits job.parts (world_at job m)) (sym inv.now) fit.0,
      λ p needed. subst (λ (s : Present). StaysFitAt job.parts.tables ((world_at job m).vars p.txn) (ops (world_at job m) p) (of_txn p.txn s)) (sym inv.now)
          (fit.1 p needed),
    )
