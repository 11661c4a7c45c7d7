-- What is written is what explains the catalogue.
use Rattle.std.proofs.Common.{sym, subst, List, ℕ}
use Rattle.std.proofs.lemmas.Result.{err_from_is_err_and}
use Rattle.pac_outside.specs.Content.{Took, TookPrefix}
use Rattle.pac_main.specs.Causes.{ExplainStops}
use Rattle.pac_main.specs.Streams.{observed}
use Rattle.pac_main.proofs.InputLemmas.{if_err}
use Rattle.pac_main.proofs.StopLemmas.{explain-input}
use Rattle.pac_main.proofs.explain.write_explanation.Goals as goal

pub returns-in_err-text-clause-stops : goal.returns-in_err-text-clause-stops
returns-in_err-text-clause-stops g c =
    let p = err_from_is_err_and c.from_residual.result c.from_residual.ensures.1 in
    let source = observed g.I.Source.left g.I.Source.faults c.args.input.now c.read_explanation.new.input in
    let sink = observed g.O.Sink.held g.O.Sink.faults c.args.output.now c.args.output.now in
    if_err (ExplainStops c.args.with_text source sink) c.from_residual.result p.0 p.1 (subst (ExplainStops c.args.with_text source sink) (sym p.2) (explain-input c.args.with_text source sink c.in_err-text.field-0.0 c.in_err-text.ensures.stops))

pub returns-in_err-write_all-clause-stops : goal.returns-in_err-write_all-clause-stops
returns-in_err-write_all-clause-stops g c =
    let p = err_from_is_err_and c.from_residual-in_err-write_all.result c.from_residual-in_err-write_all.ensures.1 in
    let source = observed g.I.Source.left g.I.Source.faults c.args.input.now c.read_explanation.new.input in
    let sink = observed g.O.Sink.held g.O.Sink.faults c.args.output.now c.write_all.new.sink in
    if_err (ExplainStops c.args.with_text source sink) c.from_residual-in_err-write_all.result p.0 p.1 (subst (ExplainStops c.args.with_text source sink) (sym p.2) (
      c.in_err-write_all.ensures.cause.failed,
      (
        c.in_ok-text.text.items,
        c.in_ok-text.ensures.ok,
        subst (λ (t : List ℕ). TookPrefix (g.O.Sink.held c.args.output.now) t (g.O.Sink.held c.write_all.new.sink)) c.deref.ensures.value c.write_all.ensures.prefix,
      ),
    ))

pub returns-clause-done : goal.returns-clause-done
returns-clause-done g c = (
  c.in_ok-text.text.items,
  c.in_ok-text.ensures.ok,
  subst (λ (t : List ℕ). Took (g.O.Sink.held c.args.output.now) t (g.O.Sink.held c.write_all.new.sink)) c.deref.ensures.value c.in_ok-write_all.ensures.ok,
)
