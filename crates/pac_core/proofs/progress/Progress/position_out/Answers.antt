-- It stands where the schedule has it.
use Rattle.std.proofs.Common.{Some, sym, ap, ◌∙◌}
use Rattle.pac_core.proofs.OutPlaces.{found_out}
use Rattle.pac_core.proofs.progress.Progress.position_out.Goals as goal

pub returns-in-Some-Out-clause-found : goal.returns-in-Some-Out-clause-found
returns-in-Some-Out-clause-found c =
    found_out c.args.self.now c.args.at c.args.piece c.get.result.now.0 c.in-Open.open
    (c.get.ensures ∙ (λ k. Some (c.get.result.now.0, (c.in-Some.is ∙ ap (λ x. Some x) c.in-Open.is) k)))
    (sym c.state.ensures ∙ c.in-Some-Out.is ∙ ap (λ x. Some x) c.in-Some-Out.field-0-is)
    c.position.result c.position.ensures
