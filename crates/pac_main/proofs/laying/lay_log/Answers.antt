-- What is written is the dump of the tables that the log's lists give.
use Rattle.std.proofs.Common.{◌≡◌, ◌∙◌, sym, ap, subst, List, ℕ, Ok, Err}
use Rattle.std.proofs.lemmas.Result.{err_from_is_err_and}
use Rattle.pac_outside.specs.Content.{Took, TookPrefix}
use Rattle.pac_value.specs.State.{Tables}
use Rattle.pac_report.specs.Dump.{tables_text}
use Rattle.pac_main.specs.Causes.{LayStops}
use Rattle.pac_main.specs.Lay.{IsLogReadAs, laid_dump}
use Rattle.pac_main.specs.Streams.{observed}
use Rattle.pac_main.proofs.InputLemmas.{if_err}
use Rattle.pac_main.proofs.LayEndLemmas.{lay-unread, lay-refused, laying-stops, read-so}
use Rattle.pac_main.proofs.laying.lay_log.Goals as goal

pub returns-in_err-text-clause-stops : goal.returns-in_err-text-clause-stops
returns-in_err-text-clause-stops g c =
    let p = err_from_is_err_and c.from_residual.result c.from_residual.ensures.1 in
    let source = observed g.I.Source.left g.I.Source.faults c.args.input.now c.read_whole.new.input in
    let sink = observed g.O.Sink.held g.O.Sink.faults c.args.output.now c.args.output.now in
    if_err (LayStops c.args.limit source sink) c.from_residual.result p.0 p.1 (subst (LayStops c.args.limit source sink) (sym p.2) (lay-unread c.args.limit source sink c.in_err-text.field-0.0 c.in_err-text.ensures.stops))

pub returns-in_err-log-clause-stops : goal.returns-in_err-log-clause-stops
returns-in_err-log-clause-stops g c =
    let p = err_from_is_err_and c.from_residual-in_err-log.result c.from_residual-in_err-log.ensures.1 in
    let source = observed g.I.Source.left g.I.Source.faults c.args.input.now c.read_whole.new.input in
    let sink = observed g.O.Sink.held g.O.Sink.faults c.args.output.now c.args.output.now in
    if_err (LayStops c.args.limit source sink) c.from_residual-in_err-log.result p.0 p.1 (subst (LayStops c.args.limit source sink) (sym p.2)
    (lay-refused c.args.limit source sink c.in_ok-text.text.items c.in_ok-text.ensures.whole c.in_err-log.field-0.0
    (λ fault is. subst (λ (text : List ℕ). IsLogReadAs text (Err fault)) c.deref.ensures.value (c.in_err-log.ensures.fault fault is))))

pub returns-in_err-rows-clause-stops : goal.returns-in_err-rows-clause-stops
returns-in_err-rows-clause-stops g c =
    let p = err_from_is_err_and c.from_residual-in_err-rows.result c.from_residual-in_err-rows.ensures.1 in
    let source = observed g.I.Source.left g.I.Source.faults c.args.input.now c.read_whole.new.input in
    let sink = observed g.O.Sink.held g.O.Sink.faults c.args.output.now c.args.output.now in
    let is = subst (λ (text : List ℕ). IsLogReadAs text (Ok c.in_ok-log.log)) c.deref.ensures.value c.in_ok-log.ensures.ok in
    if_err (LayStops c.args.limit source sink) c.from_residual-in_err-rows.result p.0 p.1 (subst (LayStops c.args.limit source sink) (sym p.2)
    (laying-stops c.args.limit source sink c.in_ok-text.text.items c.in_ok-text.ensures.whole c.in_ok-log.log c.in_err-rows.field-0.0 is c.in_err-rows.ensures.stops))

pub returns-in_err-write_all-clause-stops : goal.returns-in_err-write_all-clause-stops
returns-in_err-write_all-clause-stops g c =
    let p = err_from_is_err_and c.from_residual-in_err-write_all.result c.from_residual-in_err-write_all.ensures.1 in
    let source = observed g.I.Source.left g.I.Source.faults c.args.input.now c.read_whole.new.input in
    let sink = observed g.O.Sink.held g.O.Sink.faults c.args.output.now c.write_all.new.sink in
    let text : c.deref-2.result.now ≡ laid_dump c.in_ok-log.log = c.deref-2.ensures.value ∙ c.in_ok-dumped.ensures ∙ ap (λ (t : Tables). tables_text t 0 c.in_ok-log.log.catalogue.tables) c.in_ok-rows.ensures.rows in
    let is = subst (λ (text : List ℕ). IsLogReadAs text (Ok c.in_ok-log.log)) c.deref.ensures.value c.in_ok-log.ensures.ok in
    if_err (LayStops c.args.limit source sink) c.from_residual-in_err-write_all.result p.0 p.1 (subst (LayStops c.args.limit source sink) (sym p.2) (
      c.in_err-write_all.ensures.cause.failed,
      record {
        log = c.in_ok-log.log;
        is = read-so c.args.limit source sink c.in_ok-text.text.items c.in_ok-text.ensures.whole (Ok c.in_ok-log.log) is;
        within = c.in_ok-rows.ensures.within;
        has = subst (λ (t : List ℕ). TookPrefix (g.O.Sink.held c.args.output.now) t (g.O.Sink.held c.write_all.new.sink)) text c.write_all.ensures.prefix;
      },
    ))

pub returns-clause-done : goal.returns-clause-done
returns-clause-done g c =
    let source = observed g.I.Source.left g.I.Source.faults c.args.input.now c.read_whole.new.input in
    let sink = observed g.O.Sink.held g.O.Sink.faults c.args.output.now c.write_all.new.sink in
    let text : c.deref-2.result.now ≡ laid_dump c.in_ok-log.log = c.deref-2.ensures.value ∙ c.in_ok-dumped.ensures ∙ ap (λ (t : Tables). tables_text t 0 c.in_ok-log.log.catalogue.tables) c.in_ok-rows.ensures.rows in
    let is = subst (λ (text : List ℕ). IsLogReadAs text (Ok c.in_ok-log.log)) c.deref.ensures.value c.in_ok-log.ensures.ok in
    record {
      log = c.in_ok-log.log;
      is = read-so c.args.limit source sink c.in_ok-text.text.items c.in_ok-text.ensures.whole (Ok c.in_ok-log.log) is;
      within = c.in_ok-rows.ensures.within;
      has = subst (λ (t : List ℕ). Took (g.O.Sink.held c.args.output.now) t (g.O.Sink.held c.write_all.new.sink)) text c.in_ok-write_all.ensures.ok;
    }
