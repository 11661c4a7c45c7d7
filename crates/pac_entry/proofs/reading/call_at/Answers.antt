-- The procedure is there, and the number of arguments is that of its parameters.
use Rattle.std.proofs.Common.{◌≡◌, ◌∙◌, List, Some, length, refl, sym, ap, subst}
use Rattle.std.specs.Prelude.{slice_get}
use Rattle.std.proofs.lemmas.Bool.{ltb-true}
use Rattle.std.proofs.lemmas.Option.{slice_get_read}
use Rattle.pac_types.specs.declared.table.Column.{Column}
use Rattle.pac_types.specs.WellFormed.{types}
use Rattle.pac_base.specs.Refusals.{Fails}
use Rattle.pac_bytes.specs.Reading.{from}
use Rattle.pac_bytes.specs.Typed.{next_values}
use Rattle.pac_entry.specs.EntryReading.{next_call}
use Rattle.pac_entry.proofs.ReadingLemmas.{call_read, call_fails}
use Rattle.pac_entry.proofs.reading.call_at.Goals as goal

pub returns-in-Ok : goal.returns-in-Ok
returns-in-Ok c =
    let proc = c.in-Some.proc.now in
    let is : slice_get c.args.procs.now c.in_ok-number.number ≡ Some proc =
    ap (slice_get c.args.procs.now) (sym c.from.ensures) ∙ slice_get_read c.args.procs.now _ c.from.result proc refl (ltb-true _ _ (sym c.in-Some.ensures.lookup.0)) c.in-Some.ensures.lookup.1 in
    call_read c.args.procs.now (from c.args.bytes.now c.args.at) (from c.args.bytes.now c.in_ok-number.after) (from c.args.bytes.now c.in_ok-count.first) (from c.args.bytes.now c.in-Ok.end) c.in_ok-number.number c.in_ok-count.count proc c.in-Ok.args
    c.in_ok-number.ensures is c.in_ok-count.ensures
    (sym c.from-2.ensures ∙ c.if-from-params.false ∙ ap (λ (x : List Column). length x) c.as_slice-params.ensures)
    (ap (λ (x : List Column). next_values (types x) (from c.args.bytes.now c.in_ok-count.first)) (sym c.as_slice-params.ensures) ∙ c.in-Ok.ensures.exact)

pub returns-in-Err : goal.returns-in-Err
returns-in-Err c =
    let proc = c.in-Some.proc.now in
    let is : slice_get c.args.procs.now c.in_ok-number.number ≡ Some proc =
    ap (slice_get c.args.procs.now) (sym c.from.ensures) ∙ slice_get_read c.args.procs.now _ c.from.result proc refl (ltb-true _ _ (sym c.in-Some.ensures.lookup.0)) c.in-Some.ensures.lookup.1 in
    subst (λ e. Fails e (next_call c.args.procs.now (from c.args.bytes.now c.args.at))) (sym c.error_of.ensures)
    (call_fails c.args.procs.now (from c.args.bytes.now c.args.at) (from c.args.bytes.now c.in_ok-number.after) (from c.args.bytes.now c.in_ok-count.first) c.in_ok-number.number c.in_ok-count.count proc c.in-Err.refusal
    c.in_ok-number.ensures is c.in_ok-count.ensures
    (sym c.from-2.ensures ∙ c.if-from-params.false ∙ ap (λ (x : List Column). length x) c.as_slice-params.ensures)
    (subst (λ (x : List Column). Fails c.in-Err.refusal (next_values (types x) (from c.args.bytes.now c.in_ok-count.first))) c.as_slice-params.ensures c.in-Err.ensures.exact))
