-- The store is that of the text, or there is none for one cause.
use Rattle.std.proofs.Common.{sym, subst, List, ℕ}
use Rattle.std.proofs.lemmas.Result.{err_from_is_err_and}
use Rattle.pac_outside.specs.Devices.{IfAllKnown, each}
use Rattle.pac_store.specs.Made.{MakesStore}
use Rattle.pac_main.specs.Inputs.{IsAcceptedText}
use Rattle.pac_main.specs.Causes.{InitStops}
use Rattle.pac_main.specs.Streams.{observed, observed_devices}
use Rattle.pac_main.proofs.InputLemmas.{if_err}
use Rattle.pac_main.proofs.InitLemmas.{not-called, not-made}
use Rattle.pac_main.proofs.StopLemmas.{init-input}
use Rattle.pac_main.proofs.init.init.Goals as goal

pub make_store-requires : goal.make_store-requires
make_store-requires g c = subst (λ (text : List ℕ). IsAcceptedText text) (sym c.deref.ensures.value) c.in_ok-text.ensures.accepted

pub returns-clause-done : goal.returns-clause-done
returns-clause-done g c = (
  c.in_ok-text.text.items,
  c.in_ok-text.ensures.ok,
  subst (λ (text : List ℕ). IfAllKnown (MakesStore text) (each g.D.Disk.known c.args.devices.now) (each g.D.Disk.known c.make_store.new.devices)) c.deref.ensures.value c.in_ok-make_store.ensures.made,
)

pub returns-in_err-text-clause-stops : goal.returns-in_err-text-clause-stops
returns-in_err-text-clause-stops g c =
    let p = err_from_is_err_and c.from_residual.result c.from_residual.ensures.1 in
    let source = observed g.I.Source.left g.I.Source.faults c.args.input.now c.read_text.new.input in
    let devices = observed_devices g.D.Disk.known g.D.Disk.faults c.args.devices.now c.args.devices.now in
    if_err (InitStops source devices) c.from_residual.result p.0 p.1 (subst (InitStops source devices) (sym p.2)
    (init-input source devices c.in_err-text.field-0.0 (not-called (each g.D.Disk.known c.args.devices.now) (each g.D.Disk.faults c.args.devices.now)) c.in_err-text.ensures.stops))

pub returns-in_err-make_store-clause-stops : goal.returns-in_err-make_store-clause-stops
returns-in_err-make_store-clause-stops g c =
    let p = err_from_is_err_and c.from_residual-in_err-make_store.result c.from_residual-in_err-make_store.ensures.1 in
    let source = observed g.I.Source.left g.I.Source.faults c.args.input.now c.read_text.new.input in
    let devices = observed_devices g.D.Disk.known g.D.Disk.faults c.args.devices.now c.make_store.new.devices in
    let made = c.in_err-make_store.ensures in
    if_err (InitStops source devices) c.from_residual-in_err-make_store.result p.0 p.1 (subst (InitStops source devices) (sym p.2)
    (not-made source devices c.in_err-make_store.field-0.0 (c.in_ok-text.text.items, c.in_ok-text.ensures.ok) made.in_use made.kept made.counted made.quiet))
