use Rattle.pac_commute.proofs.FitLemmas.{partial_stays_fit}
use Rattle.pac_commute.proofs.Steps.{opens, keeps, runs_keep, may_be_taken, ordered_steps}
use Rattle.pac_commute.proofs.OrderedSteps.{keeps_order}
use Rattle.pac_commute.proofs.Loads.{loads_keep}
use Rattle.pac_commute.proofs.MachineFit.{machine_fits}
use Rattle.pac_commute.proofs.machine.Goals as goal

pub returns : goal.returns
returns c = record {
  opens = opens;
  steps = λ job is m n step inv. keeps job is step inv;
  runs = λ job is m n steps inv. runs_keep job is steps inv;
  ready = may_be_taken;
  ordered = ordered_steps;
  order = λ job is m n step inv order. keeps_order job is step inv order;
  loads = loads_keep;
  fits = partial_stays_fit;
  stays_fit = machine_fits;
}
