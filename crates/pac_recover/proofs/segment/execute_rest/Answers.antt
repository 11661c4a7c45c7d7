-- Window after window is executed, until the segment ends or a transaction aborts.
use Rattle.std.proofs.Common.{◌≡◌, ◌∙◌, ◌+◌, Ok, Err, ap, refl, sym, subst, arith}
use Rattle.std.proofs.lemmas.Result.{err_from_is_err_and}
use Rattle.pac_types.specs.Execution.{serial}
use Rattle.pac_restore.specs.Batches.{txns_in}
use Rattle.pac_restore.specs.Opening.{IsInLog}
use Rattle.pac_restore.specs.Outcomes.{FitsReplayed, outcome_of}
use Rattle.pac_restore.proofs.CauseLemmas.{no-error}
use Rattle.pac_restore.proofs.KnownLemmas.{as-refused}
use Rattle.pac_restore.proofs.OpenLemmas.{in-log-then}
use Rattle.pac_restore.proofs.TakenLemmas.{Takes, takes-none}
use Rattle.pac_recover.specs.FedLogs.{IsDamagedThere}
use Rattle.pac_recover.proofs.RestLemmas.{ends-abort, ends-more, err-then, last-handed, ok-both, takes-all, takes-damage, takes-window}
use Rattle.pac_recover.proofs.segment.execute_rest.Goals as goal

pub loop-init : goal.loop-init
loop-init g c = record {
  takes = takes-none (g.D.Disk.known c.args.disk.now) c.args.reader.now.gate _ refl;
  catalogue = c.requires.same;
  counted = omega arith;
  fits = c.requires.fits;
  same = refl;
  quiet = refl;
}

pub returns-in_err-executed-clause-refused : goal.returns-in_err-executed-clause-refused
returns-in_err-executed-clause-refused g c =
    let r = c.from_residual in
    let p = err_from_is_err_and r.result r.ensures.1 in
    let known = g.D.Disk.known c.args.disk.now in
    as-refused (IsInLog c.args.name (IsDamagedThere known c.args.reader.now.gate)) r.result p.0 p.1 (subst (λ e. IsInLog c.args.name (IsDamagedThere known c.args.reader.now.gate) e) (sym p.2)
    (in-log-then c.args.name _ _ c.in_err-executed.field-0.0 (takes-damage known (g.D.Disk.known c.loop.disk) c.loop.invariant.same c.args.reader.now.gate c.loop.reader.gate c.loop.reader.gate _ c.loop.invariant.takes) c.in_err-executed.ensures.refused))

pub returns-then-is_last-clause-executed : goal.returns-then-is_last-clause-executed
returns-then-is_last-clause-executed g c =
    let procs = c.args.cat.now.procs in
    let old = c.args.reader.now.gate in
    let mid = c.loop.reader.gate in
    let new = c.execute_window.new.reader.gate in
    let now = g.D.Disk.known c.loop.disk in
    let w = c.in_ok-executed.ensures.window in
    let outcome = outcome_of c.in_ok-executed.field-0.executed in
    takes-all (g.D.Disk.known c.args.disk.now) now c.loop.invariant.same old mid new _ c.loop.invariant.takes (λ ys. outcome ≡ serial procs (mid.txns + 1) (txns_in ys) c.loop.tables.rows) _
    (last-handed now mid new _ w.window w.read w.outcome (w.last c.if-is_last.true)) (λ xs ys read first rest. ends-more procs c.args.tables.rows old mid xs ys read c.loop.tables.rows outcome first rest)

pub returns-in-Aborted-clause-executed : goal.returns-in-Aborted-clause-executed
returns-in-Aborted-clause-executed g c =
    let procs = c.args.cat.now.procs in
    let base = c.args.tables.rows in
    let old = c.args.reader.now.gate in
    let mid = c.loop.reader.gate in
    let new = c.execute_window.new.reader.gate in
    let known = g.D.Disk.known c.args.disk.now in
    let w = c.in_ok-executed.ensures.window in
    let stops = sym (ap outcome_of c.in-Aborted.is) ∙ w.outcome in
    let so_far : Takes known old new (λ xs. Err c.in-Aborted.note ≡ serial procs (old.txns + 1) (txns_in xs) base)
    = takes-window known (g.D.Disk.known c.loop.disk) c.loop.invariant.same old mid new _ c.loop.invariant.takes _ w.window w.read w.further
    (λ xs read first. ends-more procs base old mid xs w.window read c.loop.tables.rows (Err c.in-Aborted.note) first stops) in
    ok-both c.aborted.result c.aborted.ensures.aborted c.aborted.ensures.rest (λ executed is handed.
    takes-all known (g.D.Disk.known c.execute_window.new.disk) (c.in_ok-executed.ensures.same ∙ c.loop.invariant.same) old new c.aborted.new.reader.gate _ so_far _ _ handed
    (λ xs ys read first rest. ap outcome_of is ∙ ends-abort procs base old new xs ys read c.in-Aborted.note first))

pub returns-in-Aborted-clause-refused : goal.returns-in-Aborted-clause-refused
returns-in-Aborted-clause-refused g c =
    let old = c.args.reader.now.gate in
    let mid = c.loop.reader.gate in
    let new = c.execute_window.new.reader.gate in
    let known = g.D.Disk.known c.args.disk.now in
    let w = c.in_ok-executed.ensures.window in
    let so_far : Takes known old new (λ xs. Unit {0}) = takes-window known (g.D.Disk.known c.loop.disk) c.loop.invariant.same old mid new _ c.loop.invariant.takes _ w.window w.read w.further (λ xs read first. tt) in
    err-then c.aborted.result c.aborted.ensures.refused (λ e. in-log-then c.args.name _ _ e (takes-damage known (g.D.Disk.known c.execute_window.new.disk) (c.in_ok-executed.ensures.same ∙ c.loop.invariant.same) old new new _ so_far))

pub loop-preserved : goal.loop-preserved
loop-preserved g c =
    let procs = c.args.cat.now.procs in
    let old = c.args.reader.now.gate in
    let mid = c.loop.reader.gate in
    let w = c.in_ok-executed.ensures.window in
    let ends = sym (ap outcome_of c.in-Tables.is) ∙ w.outcome in
    let more = w.more c.if-is_last.false in
    record {
      takes = takes-window (g.D.Disk.known c.args.disk.now) (g.D.Disk.known c.loop.disk) c.loop.invariant.same old mid c.execute_window.new.reader.gate _ c.loop.invariant.takes _ w.window w.read w.further
          (λ xs read first. ends-more procs c.args.tables.rows old mid xs w.window read c.loop.tables.rows (Ok c.in-Tables.tables.rows) first ends);
      catalogue = w.read.catalogue ∙ c.loop.invariant.catalogue;
      counted = omega (arith, c.loop.invariant.counted, more);
      fits = subst (λ e. FitsReplayed c.args.cat.now e) c.in-Tables.is c.in_ok-executed.ensures.fits;
      same = c.in_ok-executed.ensures.same ∙ c.loop.invariant.same;
      quiet = c.in_ok-executed.ensures.kept (no-error _ _) ∙ c.loop.invariant.quiet;
    }
