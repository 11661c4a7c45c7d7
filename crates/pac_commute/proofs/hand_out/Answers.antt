use Rattle.pac_commute.specs.PlanLaws.{planned}
use Rattle.pac_commute.proofs.PlanFacts.{well_formed_plan}
use Rattle.pac_commute.proofs.TwoPieces.{fine}
use Rattle.pac_commute.proofs.Ready.{some_ready}
use Rattle.pac_commute.proofs.Steps.{outs_apart, have_inputs}
use Rattle.pac_commute.proofs.OrderedSteps.{outs_unordered}
use Rattle.pac_commute.proofs.OutWork.{work_stays}
use Rattle.pac_commute.proofs.hand_out.Goals as goal

pub returns : goal.returns
returns c = record {
  ready = λ parts is first batches env L. some_ready (planned parts first batches) (well_formed_plan parts is first batches) env L;
  fine = λ parts is first batches env L. fine (planned parts first batches) (well_formed_plan parts is first batches) env L;
  apart = outs_apart;
  unordered = outs_unordered;
  inputs = have_inputs;
  undisturbed = λ job is m n p inv out stays. work_stays job is p stays inv out;
}
