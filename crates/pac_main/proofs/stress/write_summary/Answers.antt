-- What is written is the summary.
use Rattle.std.proofs.Common.{◌≡◌, ◌∙◌, sym, subst, List, ℕ}
use Rattle.std.proofs.lemmas.Result.{err_from_is_err_and}
use Rattle.pac_outside.specs.Content.{Took, TookPrefix}
use Rattle.pac_main.specs.Causes.{StressStops}
use Rattle.pac_main.specs.Streams.{IsPrefixTaken, IsTaken, observed}
use Rattle.pac_main.proofs.InputLemmas.{if_err}
use Rattle.pac_main.proofs.StressLemmas.{no-summary, summary-as}
use Rattle.pac_main.proofs.stress.write_summary.Goals as goal

pub returns-in_err-text-clause-stops : goal.returns-in_err-text-clause-stops
returns-in_err-text-clause-stops g c =
    let p = err_from_is_err_and c.from_residual.result c.from_residual.ensures.1 in
    let sink = observed g.O.Sink.held g.O.Sink.faults c.args.output.now c.args.output.now in
    if_err (StressStops c.args.count sink) c.from_residual.result p.0 p.1 (subst (StressStops c.args.count sink) (sym p.2) (no-summary c.args.count sink c.requires.few c.in_err-text.field-0.0 c.in_err-text.ensures.stops))

pub returns-in_err-write_all-clause-stops : goal.returns-in_err-write_all-clause-stops
returns-in_err-write_all-clause-stops g c =
    let p = err_from_is_err_and c.from_residual-in_err-write_all.result c.from_residual-in_err-write_all.ensures.1 in
    let sink = observed g.O.Sink.held g.O.Sink.faults c.args.output.now c.write_all.new.sink in
    let prefix = summary-as c.args.count (λ all. c.in_ok-text.text.items ≡ all) (IsPrefixTaken sink)
    (λ all is. subst (λ (t : List ℕ). TookPrefix (g.O.Sink.held c.args.output.now) t (g.O.Sink.held c.write_all.new.sink)) (c.deref.ensures.value ∙ is) c.write_all.ensures.prefix)
    c.in_ok-text.ensures.done in
    if_err (StressStops c.args.count sink) c.from_residual-in_err-write_all.result p.0 p.1 (subst (StressStops c.args.count sink) (sym p.2) (c.in_err-write_all.ensures.cause.failed, prefix))

pub returns-clause-done : goal.returns-clause-done
returns-clause-done g c =
    let sink = observed g.O.Sink.held g.O.Sink.faults c.args.output.now c.write_all.new.sink in
    summary-as c.args.count (λ all. c.in_ok-text.text.items ≡ all) (IsTaken sink)
    (λ all is. subst (λ (t : List ℕ). Took (g.O.Sink.held c.args.output.now) t (g.O.Sink.held c.write_all.new.sink)) (c.deref.ensures.value ∙ is) c.in_ok-write_all.ensures.ok)
    c.in_ok-text.ensures.done
