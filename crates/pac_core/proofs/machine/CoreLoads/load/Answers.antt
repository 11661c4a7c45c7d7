-- What the trait requires is what the core requires, and the numbers go on.
use Rattle.std.proofs.Common.{◌≡◌, ◌+◌, length, sym, subst}
use Rattle.std.specs.Prelude.{OnOk}
use Rattle.pac_commute.specs.Loads.{next_in_job}
use Rattle.pac_core.proofs.BatchFits.{all_of_plan}
use Rattle.pac_core.proofs.NextRun.{next_loaded}
use Rattle.pac_core.proofs.machine.CoreLoads.load.Goals.{in-Ok, in-Err}
use Rattle.pac_core.proofs.machine.CoreLoads.load.Goals as goal

pub load-requires-clause-may : goal.load-requires-clause-may
load-requires-clause-may g c = record { opening = c.requires.open; first = c.requires.first; fits = all_of_plan c.args.self.now.job.parts c.args.batch.txns c.requires.fits }

pub returns-clause-next : goal.returns-clause-next
returns-clause-next g c =
    let old = c.args.self.now in
    let new = c.load.new.self in
    let batch = c.args.batch in
    elim c.match-load.branch [
      | in-Ok w ↦ subst (λ r. OnOk r (next_in_job new.job new.batches ≡ batch.first + length batch.txns)) (sym w.result-is) (next_loaded old new batch c.requires.first w.in-Ok.ensures.ok)
      | in-Err w ↦ subst (λ r. OnOk r (next_in_job new.job new.batches ≡ batch.first + length batch.txns)) (sym w.result-is) tt
    ]
