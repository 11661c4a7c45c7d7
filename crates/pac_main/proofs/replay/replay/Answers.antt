-- What is written is the dump of the tables with which the script's transactions end.
use Rattle.std.proofs.Common.{◌≡◌, ◌∙◌, sym, ap, subst, List, ℕ}
use Rattle.std.proofs.lemmas.Result.{err_from_is_err_and}
use Rattle.pac_outside.specs.Content.{Took, TookPrefix}
use Rattle.pac_types.specs.Typing.{CatalogueState}
use Rattle.pac_report.specs.Dump.{tables_text}
use Rattle.pac_main.specs.Causes.{ReplayStops}
use Rattle.pac_main.specs.Replay.{IsDumpOf, dump}
use Rattle.pac_main.specs.Streams.{observed}
use Rattle.pac_main.proofs.InputLemmas.{if_err}
use Rattle.pac_main.proofs.StopLemmas.{replay-input, replay-script}
use Rattle.pac_main.proofs.replay.replay.Goals as goal

pub returns-in_err-script-clause-stops : goal.returns-in_err-script-clause-stops
returns-in_err-script-clause-stops g c =
    let p = err_from_is_err_and c.from_residual.result c.from_residual.ensures.1 in
    let source = observed g.I.Source.left g.I.Source.faults c.args.input.now c.read_input.new.input in
    let sink = observed g.O.Sink.held g.O.Sink.faults c.args.output.now c.args.output.now in
    if_err (ReplayStops c.args.limit (IsDumpOf c.args.limit source.before) source sink) c.from_residual.result p.0 p.1 (subst (ReplayStops c.args.limit (IsDumpOf c.args.limit source.before) source sink) (sym p.2) (replay-input c.args.limit (IsDumpOf c.args.limit source.before) source sink c.in_err-script.field-0.0 c.in_err-script.ensures.stops))

pub returns-in_err-catalogue-clause-stops : goal.returns-in_err-catalogue-clause-stops
returns-in_err-catalogue-clause-stops g c =
    let p = err_from_is_err_and c.from_residual-in_err-catalogue.result c.from_residual-in_err-catalogue.ensures.1 in
    let source = observed g.I.Source.left g.I.Source.faults c.args.input.now c.read_input.new.input in
    let sink = observed g.O.Sink.held g.O.Sink.faults c.args.output.now c.args.output.now in
    if_err (ReplayStops c.args.limit (IsDumpOf c.args.limit source.before) source sink) c.from_residual-in_err-catalogue.result p.0 p.1 (subst (ReplayStops c.args.limit (IsDumpOf c.args.limit source.before) source sink) (sym p.2) (replay-script c.args.limit (IsDumpOf c.args.limit source.before) source sink c.in_ok-script.script c.in_err-catalogue.field-0.0 c.in_ok-script.ensures.ok c.in_err-catalogue.ensures.stops))

pub returns-in_err-write_all-clause-stops : goal.returns-in_err-write_all-clause-stops
returns-in_err-write_all-clause-stops g c =
    let p = err_from_is_err_and c.from_residual-in_err-write_all.result c.from_residual-in_err-write_all.ensures.1 in
    let source = observed g.I.Source.left g.I.Source.faults c.args.input.now c.read_input.new.input in
    let sink = observed g.O.Sink.held g.O.Sink.faults c.args.output.now c.write_all.new.sink in
    let text : c.deref.result.now ≡ dump c.in_ok-script.script c.in_ok-catalogue.rows.rows = c.deref.ensures.value ∙ c.in_ok-text.ensures ∙ ap (λ (cat : CatalogueState). tables_text c.in_ok-catalogue.rows.rows 0 cat.tables) c.in_ok-catalogue.ensures.same in
    if_err (ReplayStops c.args.limit (IsDumpOf c.args.limit source.before) source sink) c.from_residual-in_err-write_all.result p.0 p.1 (subst (ReplayStops c.args.limit (IsDumpOf c.args.limit source.before) source sink) (sym p.2) (
      c.in_err-write_all.ensures.cause.failed,
      record {
        script = c.in_ok-script.script;
        tables = c.in_ok-catalogue.rows.rows;
        is = c.in_ok-script.ensures.ok;
        ends = c.in_ok-catalogue.ensures.ends;
        within = c.in_ok-catalogue.ensures.within;
        has = subst (λ (t : List ℕ). TookPrefix (g.O.Sink.held c.args.output.now) t (g.O.Sink.held c.write_all.new.sink)) text c.write_all.ensures.prefix;
      },
    ))

pub returns-clause-done : goal.returns-clause-done
returns-clause-done g c =
    let text : c.deref.result.now ≡ dump c.in_ok-script.script c.in_ok-catalogue.rows.rows = c.deref.ensures.value ∙ c.in_ok-text.ensures ∙ ap (λ (cat : CatalogueState). tables_text c.in_ok-catalogue.rows.rows 0 cat.tables) c.in_ok-catalogue.ensures.same in
    record {
      script = c.in_ok-script.script;
      tables = c.in_ok-catalogue.rows.rows;
      is = c.in_ok-script.ensures.ok;
      ends = c.in_ok-catalogue.ensures.ends;
      within = c.in_ok-catalogue.ensures.within;
      has = subst (λ (t : List ℕ). Took (g.O.Sink.held c.args.output.now) t (g.O.Sink.held c.write_all.new.sink)) text c.in_ok-write_all.ensures.ok;
    }
