-- What is written is the dump of the tables that are recovered.
use Rattle.std.proofs.Common.{◌≡◌, ◌∙◌, sym, subst, List, ℕ}
use Rattle.std.proofs.lemmas.Result.{err_from_is_err_and}
use Rattle.pac_outside.specs.Content.{Took, TookPrefix}
use Rattle.pac_outside.specs.Devices.{each}
use Rattle.pac_report.specs.Dump.{tables_text}
use Rattle.pac_main.specs.Causes.{RecoverStops}
use Rattle.pac_main.specs.Stop.{stop_of_recover}
use Rattle.pac_main.specs.Streams.{IsPrefixTaken, IsTaken, observed, observed_devices}
use Rattle.pac_main.proofs.InputLemmas.{if_err}
use Rattle.pac_main.proofs.RecoverLemmas.{found_of, is-prefix-dump, is-recovery, no-text, not-recovered}
use Rattle.pac_main.proofs.recover.write_recovered.Goals as goal

pub returns-in_err-recovered-clause-stops : goal.returns-in_err-recovered-clause-stops
returns-in_err-recovered-clause-stops g c =
    let p = err_from_is_err_and c.from_residual.result c.from_residual.ensures.1 in
    let old = c.args.devices.now in
    let devices = observed_devices g.D.Disk.known g.D.Disk.faults old c.recover.new.devices in
    let sink = observed g.O.Sink.held g.O.Sink.faults c.args.output.now c.args.output.now in
    let error = c.in_err-recovered.field-0.0 in
    let h = c.in_err-recovered.ensures in
    let stops = not-recovered c.from.result (each g.D.Disk.known old) (each g.D.Disk.faults old) (each g.D.Disk.faults c.recover.new.devices) (each g.D.Disk.known c.recover.new.devices) sink error (record {
      refused = h.refused;
      stands = h.stands;
      disk_fault = h.disk_fault;
      quiet = h.quiet;
    }) in
    if_err (RecoverStops c.args.limit devices sink) c.from_residual.result p.0 p.1 (subst (RecoverStops c.args.limit devices sink) (sym p.2)
    (subst (λ (n : ℕ). RecoverStops n devices sink (stop_of_recover error)) c.from.ensures stops))

pub returns-in_err-text-clause-stops : goal.returns-in_err-text-clause-stops
returns-in_err-text-clause-stops g c =
    let p = err_from_is_err_and c.from_residual-in_err-text.result c.from_residual-in_err-text.ensures.1 in
    let old = c.args.devices.now in
    let devices = observed_devices g.D.Disk.known g.D.Disk.faults old c.recover.new.devices in
    let sink = observed g.O.Sink.held g.O.Sink.faults c.args.output.now c.args.output.now in
    if_err (RecoverStops c.args.limit devices sink) c.from_residual-in_err-text.result p.0 p.1 (subst (RecoverStops c.args.limit devices sink) (sym p.2)
    (no-text c.args.limit (each g.D.Disk.known old) (each g.D.Disk.faults old) (each g.D.Disk.faults c.recover.new.devices) (each g.D.Disk.known c.recover.new.devices) sink (c.in_ok-recovered.ensures.quiet (λ e. absurd cc))))

pub returns-in_err-write_all-clause-stops : goal.returns-in_err-write_all-clause-stops
returns-in_err-write_all-clause-stops g c =
    let p = err_from_is_err_and c.from_residual-in_err-write_all.result c.from_residual-in_err-write_all.ensures.1 in
    let old = c.args.devices.now in
    let before = each g.D.Disk.known old in
    let devices = observed_devices g.D.Disk.known g.D.Disk.faults old c.recover.new.devices in
    let sink = observed g.O.Sink.held g.O.Sink.faults c.args.output.now c.write_all.new.sink in
    let recovered = c.in_ok-recovered.recovered in
    let h = c.in_ok-recovered.ensures in
    let found = found_of c.args.limit c.from.result before recovered c.from.ensures h.recovered h.within h.stands in
    let text : c.deref.result.now ≡ tables_text recovered.tables.rows 0 recovered.catalogue.tables = c.deref.ensures.value ∙ c.in_ok-text.ensures in
    let prefix = subst (λ (t : List ℕ). TookPrefix (g.O.Sink.held c.args.output.now) t (g.O.Sink.held c.write_all.new.sink)) text c.write_all.ensures.prefix in
    if_err (RecoverStops c.args.limit devices sink) c.from_residual-in_err-write_all.result p.0 p.1 (subst (RecoverStops c.args.limit devices sink) (sym p.2) (record {
      cause = (c.in_err-write_all.ensures.cause.failed, is-recovery c.args.limit before recovered found (IsPrefixTaken sink) prefix);
      stands = is-prefix-dump c.args.limit before recovered found (IsPrefixTaken sink) prefix;
      quiet = λ other. h.quiet (λ e. absurd cc);
    }))

pub returns-clause-done : goal.returns-clause-done
returns-clause-done g c =
    let old = c.args.devices.now in
    let before = each g.D.Disk.known old in
    let sink = observed g.O.Sink.held g.O.Sink.faults c.args.output.now c.write_all.new.sink in
    let recovered = c.in_ok-recovered.recovered in
    let h = c.in_ok-recovered.ensures in
    let found = found_of c.args.limit c.from.result before recovered c.from.ensures h.recovered h.within h.stands in
    let text : c.deref.result.now ≡ tables_text recovered.tables.rows 0 recovered.catalogue.tables = c.deref.ensures.value ∙ c.in_ok-text.ensures in
    let whole = subst (λ (t : List ℕ). Took (g.O.Sink.held c.args.output.now) t (g.O.Sink.held c.write_all.new.sink)) text c.in_ok-write_all.ensures.ok in
    record {
      dump = is-recovery c.args.limit before recovered found (IsTaken sink) whole;
      stands = is-prefix-dump c.args.limit before recovered found (IsTaken sink) whole;
      quiet = h.quiet (λ e. absurd cc);
    }
