-- Each line is served after the others.
use Rattle.std.proofs.Common.{ℕ, ◌+◌, take, ◌∙◌, ap, refl, sym, arith}
use Rattle.std.proofs.lemmas.Result.{err_from_is_err_and}
use Rattle.pac_outside.specs.Devices.{each}
use Rattle.pac_restore.proofs.CauseLemmas.{as-error}
use Rattle.pac_run.proofs.LineLemmas.{broke-any, catalogue-stays, end-any, falls-any, first-serving, more-any, never-input, read-any, faulted-later, stopped-any}
use Rattle.pac_run.proofs.ShortLines.{keeps_whole}
use Rattle.pac_lines.specs.Short.{ShortState}
use Rattle.pac_lines.proofs.ShortCalls.{short_of_itself}
use Rattle.pac_run.proofs.serving.serve_lines.Goals as goal

pub loop-stop-init : goal.loop-stop-init
loop-stop-init g c = record {
  same = refl;
  goes_on = c.requires.goes_on;
  ready = c.requires.ready;
  whole = c.new-reader.result.state;
  short = short_of_itself c.new-reader.result;
  most = ap (λ (s : ShortState). s.most) c.new-reader.ensures;
  serving = first-serving c.args.engine.now _ _ _ c.new-reader.result.state c.requires.none c.requires.held c.requires.durable (ap (λ (s : ShortState). s.state) c.new-reader.ensures);
  quiet = refl;
  later_output = omega arith;
  later_input = omega arith;
}

pub returns-in-Ok-false-clause-served : goal.returns-in-Ok-false-clause-served
returns-in-Ok-false-clause-served g c =
    let i = c.loop-stop.invariant in
    let call = c.in-Ok-false.ensures.call i.whole i.short in
    end-any c.args.engine.now c.loop-stop.engine _ _ _ i.whole call.whole _ _ _ _ _ _ i.serving c.answer.new.engine c.args.catalogue.now c.requires.same c.in-Ok-false.field-0 c.in-Ok-false.field-0-test call.call (keeps_whole call.whole c.next_line.new.self _ call.short c.in-Ok-false.ensures.limit) _ _
    (λ faulted. faulted-later _ _ _ i.later_output faulted) c.answer.result c.answer.ensures.ok c.answer.ensures.err

pub returns-in-Ok-false-clause-input_fault : goal.returns-in-Ok-false-clause-input_fault
returns-in-Ok-false-clause-input_fault g c = λ is.
    let i = c.loop-stop.invariant in
    absurd (never-input c.args.engine.now c.loop-stop.engine _ _ i.whole _ _ _ _ _ _ i.serving c.args.catalogue.now _ c.answer.new.engine _ (c.answer.ensures.err _ is))

pub returns-in-Err-clause-served : goal.returns-in-Err-clause-served
returns-in-Err-clause-served g c =
    let i = c.loop-stop.invariant in
    let call = c.in-Err.ensures.call i.whole i.short in
    read-any c.args.engine.now c.loop-stop.engine _ _ _ i.whole call.whole _ _ _ _ i.serving _ c.in-Err.error c.stop_of_read.result c.stop_of_read.ensures call.call (keeps_whole call.whole c.next_line.new.self _ call.short c.in-Err.ensures.limit)

pub returns-in_err-serve_line-clause-served : goal.returns-in_err-serve_line-clause-served
returns-in_err-serve_line-clause-served g c =
    let i = c.loop-stop.invariant in
    let call = c.in-Ok-true.ensures.call i.whole i.short in
    let r = c.from_residual in
    let p = err_from_is_err_and r.result r.ensures.1 in
    broke-any c.args.engine.now c.loop-stop.engine _ _ _ i.whole call.whole _ _ _ _ _ _ i.serving c.serve_line.new.engine c.args.catalogue.now c.requires.same c.in-Ok-true.field-0 c.in-Ok-true.field-0-test call.call (keeps_whole call.whole c.next_line.new.self _ call.short c.in-Ok-true.ensures.limit)
    c.line.result.now (c.line.ensures ∙ call.line ∙ ap (λ (n : ℕ). take (n + 1) call.whole.line) (c.in-Ok-true.ensures.most ∙ i.most)) _ _ (λ faulted. faulted-later _ _ _ i.later_output faulted) r.result p.0 p.1 (c.in_err-serve_line.ensures.err p.0 (as-error _ _ (sym p.2)))

pub returns-then-branch-clause-served : goal.returns-then-branch-clause-served
returns-then-branch-clause-served g c =
    let i = c.loop-stop.invariant in
    let call = c.in-Ok-true.ensures.call i.whole i.short in
    stopped-any c.args.engine.now c.loop-stop.engine _ _ _ i.whole call.whole _ _ _ _ _ _ i.serving c.serve_line.new.engine c.args.catalogue.now c.requires.same c.in-Ok-true.field-0 c.in-Ok-true.field-0-test call.call (keeps_whole call.whole c.next_line.new.self _ call.short c.in-Ok-true.ensures.limit)
    c.line.result.now (c.line.ensures ∙ call.line ∙ ap (λ (n : ℕ). take (n + 1) call.whole.line) (c.in-Ok-true.ensures.most ∙ i.most)) _ c.in_ok-serve_line.field-0 c.if-branch.true c.in_ok-serve_line.ensures.ok

pub loop-stop-smaller : goal.loop-stop-smaller
loop-stop-smaller g c =
    let i = c.loop-stop.invariant in
    let call = c.in-Ok-true.ensures.call i.whole i.short in
    falls-any c.args.engine.now c.loop-stop.engine _ _ _ i.whole call.whole _ _ (g.O.Sink.held c.loop-stop.output) _ _ (each g.D.Disk.known c.loop-stop.devices) i.serving c.serve_line.new.engine c.args.catalogue.now c.requires.same c.in-Ok-true.field-0 c.in-Ok-true.field-0-test call.call (keeps_whole call.whole c.next_line.new.self _ call.short c.in-Ok-true.ensures.limit) c.line.result.now (c.line.ensures ∙ call.line ∙ ap (λ (n : ℕ). take (n + 1) call.whole.line) (c.in-Ok-true.ensures.most ∙ i.most))
    c.loop-stop.reader c.next_line.new.self i.short call.short

pub loop-stop-preserved : goal.loop-stop-preserved
loop-stop-preserved g c =
    let i = c.loop-stop.invariant in
    let call = c.in-Ok-true.ensures.call i.whole i.short in
    record {
      same = catalogue-stays c.args.engine.now.session.catalogue c.loop-stop.engine c.serve_line.new.engine _ _ _ _ _ _ _ i.same c.in_ok-serve_line.ensures.ok;
      goes_on = c.in_ok-serve_line.ensures.stopped ∙ c.if-branch.false;
      ready = c.in_ok-serve_line.ensures.ready;
      whole = call.whole;
      short = call.short;
      most = c.in-Ok-true.ensures.most ∙ i.most;
      serving = more-any c.args.engine.now c.loop-stop.engine _ _ _ i.whole call.whole _ _ _ _ _ _ i.serving c.serve_line.new.engine c.args.catalogue.now c.requires.same c.in-Ok-true.field-0 c.in-Ok-true.field-0-test call.call (keeps_whole call.whole c.next_line.new.self _ call.short c.in-Ok-true.ensures.limit)
          c.line.result.now (c.line.ensures ∙ call.line ∙ ap (λ (n : ℕ). take (n + 1) call.whole.line) (c.in-Ok-true.ensures.most ∙ i.most)) c.in_ok-serve_line.field-0 c.if-branch.false c.in_ok-serve_line.ensures.ok;
      quiet = c.in_ok-serve_line.ensures.quiet (λ e. absurd cc) ∙ i.quiet;
      later_output = omega (arith, i.later_output, c.serve_line.ensures.later);
      later_input = omega (arith, i.later_input, c.next_line.ensures.later);
    }
