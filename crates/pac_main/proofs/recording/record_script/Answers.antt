-- What is written is the log of the script's text.
use Rattle.std.proofs.Common.{◌≡◌, ◌∙◌, Ok, sym, ap, subst, List, ℕ}
use Rattle.std.proofs.lemmas.Result.{err_from_is_err_and}
use Rattle.pac_outside.specs.Content.{Took, TookPrefix}
use Rattle.pac_script.specs.Script.{MarkOf}
use Rattle.pac_main.specs.Causes.{IsNoScript, ReplayStops}
use Rattle.pac_main.specs.Record.{IsLogOf, log_text}
use Rattle.pac_main.specs.Replay.{IsReadAs}
use Rattle.pac_main.specs.Streams.{observed}
use Rattle.pac_main.proofs.InputLemmas.{if_err, no-script-input, of-input, unread-script}
use Rattle.pac_main.proofs.StopLemmas.{replay-input, replay-script}
use Rattle.pac_main.proofs.recording.record_script.Goals as goal

pub returns-in_err-text-clause-stops : goal.returns-in_err-text-clause-stops
returns-in_err-text-clause-stops g c =
    let p = err_from_is_err_and c.from_residual.result c.from_residual.ensures.1 in
    let source = observed g.I.Source.left g.I.Source.faults c.args.input.now c.read_whole.new.input in
    let sink = observed g.O.Sink.held g.O.Sink.faults c.args.output.now c.args.output.now in
    let Stops = ReplayStops c.args.limit (IsLogOf c.args.limit source.before) source sink in
    if_err Stops c.from_residual.result p.0 p.1 (subst Stops (sym p.2) (replay-input c.args.limit (IsLogOf c.args.limit source.before) source sink c.in_err-text.field-0.0 (unread-script source c.in_err-text.field-0.0 c.in_err-text.ensures.stops)))

pub returns-in_err-script-clause-stops : goal.returns-in_err-script-clause-stops
returns-in_err-script-clause-stops g c =
    let p = err_from_is_err_and c.from_residual-in_err-script.result c.from_residual-in_err-script.ensures.1 in
    let source = observed g.I.Source.left g.I.Source.faults c.args.input.now c.read_whole.new.input in
    let sink = observed g.O.Sink.held g.O.Sink.faults c.args.output.now c.args.output.now in
    let Stops = ReplayStops c.args.limit (IsLogOf c.args.limit source.before) source sink in
    let error = c.in_err-script.field-0.0 in
    let none = subst (λ (text : List ℕ). IsNoScript text error) c.deref.ensures.value c.in_err-script.ensures.stops in
    if_err Stops c.from_residual-in_err-script.result p.0 p.1 (subst Stops (sym p.2) (replay-input c.args.limit (IsLogOf c.args.limit source.before) source sink error
    (no-script-input source c.in_ok-text.text.items c.in_ok-text.ensures.whole error none)))

pub returns-in_err-log-clause-stops : goal.returns-in_err-log-clause-stops
returns-in_err-log-clause-stops g c =
    let p = err_from_is_err_and c.from_residual-in_err-log.result c.from_residual-in_err-log.ensures.1 in
    let source = observed g.I.Source.left g.I.Source.faults c.args.input.now c.read_whole.new.input in
    let sink = observed g.O.Sink.held g.O.Sink.faults c.args.output.now c.args.output.now in
    let Stops = ReplayStops c.args.limit (IsLogOf c.args.limit source.before) source sink in
    let script = c.in_ok-script.script in
    let is = subst (λ (text : List ℕ). IsReadAs text (Ok script)) c.deref.ensures.value c.in_ok-script.ensures.ok in
    if_err Stops c.from_residual-in_err-log.result p.0 p.1 (subst Stops (sym p.2) (replay-script c.args.limit (IsLogOf c.args.limit source.before) source sink script c.in_err-log.field-0.0
    (of-input (λ (text : List ℕ). IsReadAs text (Ok script)) source.before c.in_ok-text.text.items c.in_ok-text.ensures.whole is) c.in_err-log.ensures.stops))

pub returns-in_err-write_all-clause-stops : goal.returns-in_err-write_all-clause-stops
returns-in_err-write_all-clause-stops g c =
    let p = err_from_is_err_and c.from_residual-in_err-write_all.result c.from_residual-in_err-write_all.ensures.1 in
    let source = observed g.I.Source.left g.I.Source.faults c.args.input.now c.read_whole.new.input in
    let sink = observed g.O.Sink.held g.O.Sink.faults c.args.output.now c.write_all.new.sink in
    let Stops = ReplayStops c.args.limit (IsLogOf c.args.limit source.before) source sink in
    let text = c.in_ok-text.text.items in
    let script = c.in_ok-script.script in
    let log = c.in_ok-log.ensures.log in
    let ends = c.in_ok-log.ensures.ends in
    let mark = log.0 in
    let same : c.deref-3.result.now ≡ log_text text mark script = c.deref-3.ensures.value ∙ log.2 ∙ ap (λ (t : List ℕ). log_text t mark script) c.deref-2.ensures.value in
    if_err Stops c.from_residual-in_err-write_all.result p.0 p.1 (subst Stops (sym p.2) (
      c.in_err-write_all.ensures.cause.failed,
      record {
        text = text;
        mark = mark;
        script = script;
        tables = ends.0;
        whole = c.in_ok-text.ensures.whole;
        is = subst (λ (t : List ℕ). IsReadAs t (Ok script)) c.deref.ensures.value c.in_ok-script.ensures.ok;
        is_mark = subst (λ (t : List ℕ). MarkOf t mark) c.deref-2.ensures.value log.1;
        ends = ends.1;
        within = ends.2;
        lists = c.in_ok-log.ensures.lists;
        has = subst (λ (t : List ℕ). TookPrefix (g.O.Sink.held c.args.output.now) t (g.O.Sink.held c.write_all.new.sink)) same c.write_all.ensures.prefix;
      },
    ))

pub returns-clause-done : goal.returns-clause-done
returns-clause-done g c =
    let text = c.in_ok-text.text.items in
    let script = c.in_ok-script.script in
    let log = c.in_ok-log.ensures.log in
    let ends = c.in_ok-log.ensures.ends in
    let mark = log.0 in
    let same : c.deref-3.result.now ≡ log_text text mark script = c.deref-3.ensures.value ∙ log.2 ∙ ap (λ (t : List ℕ). log_text t mark script) c.deref-2.ensures.value in
    record {
      text = text;
      mark = mark;
      script = script;
      tables = ends.0;
      whole = c.in_ok-text.ensures.whole;
      is = subst (λ (t : List ℕ). IsReadAs t (Ok script)) c.deref.ensures.value c.in_ok-script.ensures.ok;
      is_mark = subst (λ (t : List ℕ). MarkOf t mark) c.deref-2.ensures.value log.1;
      ends = ends.1;
      within = ends.2;
      lists = c.in_ok-log.ensures.lists;
      has = subst (λ (t : List ℕ). Took (g.O.Sink.held c.args.output.now) t (g.O.Sink.held c.write_all.new.sink)) same c.in_ok-write_all.ensures.ok;
    }
