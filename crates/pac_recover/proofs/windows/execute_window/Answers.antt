-- What the feed gave of the log is executed, or the reading is refused.
use Rattle.std.proofs.Common.{rules, ◌≡◌, ◌∙◌, ◌+◌, ◌≤◌, Bool, List, Option, Some, None, sym, ap, subst, arith}
use Rattle.pac_ops.specs.declared.program.Program.{Program}
use Rattle.pac_types.specs.Execution.{serial}
use Rattle.pac_flat.specs.Agreement.{ReplaysTheSame}
use Rattle.pac_log.specs.declared.position.NextGate.{NextGate}
use Rattle.pac_restore.specs.Batches.{txns_in}
use Rattle.pac_restore.specs.Opening.{IsInLog}
use Rattle.pac_restore.specs.Outcomes.{FitsReplayed, outcome_of}
use Rattle.pac_recover.specs.declared.log_feed.FeedEnd.{FeedEnd}
use Rattle.pac_recover.specs.FedLogs.{AreBodiesCounted, IsDamagedThere, refusal_of}
use Rattle.pac_recover.specs.Windows.{IsExecutedWindow}
use Rattle.pac_recover.proofs.WindowEnds.{executed-window, given-from, refused-there}
use Rattle.pac_recover.proofs.WorkerLemmas.{fits-executed, gives}
use Rattle.pac_recover.proofs.windows.execute_window.Goals as goal

pub returns-in-Some-clause-refused : goal.returns-in-Some-clause-refused
returns-in-Some-clause-refused g c =
    let end = c.execute_feed-executed.new.feed.end in
    let given = c.execute_feed-executed.ensures.given in
    let known = g.D.Disk.known c.args.disk.now in
    let of_log = given-from known _ _ c.args.reader.now.gate _ _ given.0 _ end (λ i. g.D.Disk.known (c.new-feed.ensures.disk i).now) (λ i. (c.new-feed.ensures.reader i).now.gate) c.new-feed.ensures.end given.1.known.4 in
    let refusal : refusal_of end ≡ Some c.in-Some.cause = sym c.refusal.ensures ∙ c.in-Some.is in
    subst (λ e. IsInLog c.args.name (IsDamagedThere known c.args.reader.now.gate) e) (sym c.in_log.ensures)
    (refused-there known _ c.args.reader.now.gate _ given.0 end of_log c.args.name c.in-Some.cause refusal)

pub returns-clause-fits : goal.returns-clause-fits
returns-clause-fits g c =
    let cat = c.args._cat.now in
    let executed = c.in_ok-executed.field-0 in
    subst (λ e. FitsReplayed cat e) (sym c.execution_of.ensures)
    (fits-executed cat c.in_ok-plan.plan ((λ i. (c.in_ok-plan.ensures i).programs) ∙ c.requires.programs) ((λ i. (c.in_ok-plan.ensures i).tables) ∙ c.requires.shapes) _ executed.tables executed.first_note
    c.in_ok-executed.ensures.tables c.in_ok-executed.ensures.fit)

pub returns-clause-window : goal.returns-clause-window
returns-clause-window g c =
    let procs = c.args._cat.now.procs in
    let old = c.args.reader.now.gate in
    let feed = c.execute_feed-executed.new.feed in
    let executed = c.in_ok-executed.field-0 in
    let w = c.in_ok-executed.ensures.executed in
    let known = g.D.Disk.known c.args.disk.now in
    let same : c.in_ok-plan.plan.programs ≡ c.args.plan.now.programs = (λ i. (c.in_ok-plan.ensures i).programs) in
    let replays : ReplaysTheSame procs c.in_ok-plan.plan.programs = subst (λ (ps : List Program). ReplaysTheSame procs ps) (sym same) c.requires.replays in
    let number : c.txns-first.result ≡ old.txns = c.txns-first.ensures.value ∙ (λ i. (c.gate.ensures i).txns) in
    let outcome = ap outcome_of c.execution_of.ensures
    ∙ gives procs c.in_ok-plan.plan.programs replays c.txns-first.result w.batches c.args.tables.rows _ executed.tables executed.first_note w.tables_are w.note_is
    ∙ ap (λ n. serial procs (n + 1) (txns_in w.batches) c.args.tables.rows) number in
    let of_log = given-from known _ (g.D.Disk.known feed.disk.now) old _ feed.reader.now.gate w.batches _ feed.end (λ i. g.D.Disk.known (c.new-feed.ensures.disk i).now) (λ i. (c.new-feed.ensures.reader i).now.gate) c.new-feed.ensures.end w.given.known.4 in
    let missing = c.new-feed.result.missing in
    let some : 1 ≤ missing = let is = c.new-feed.ensures.missing in omega (arith, c.requires.bytes, is) in
    let bodies = subst (λ (e : Option FeedEnd). AreBodiesCounted missing feed.missing w.batches e feed.end) c.new-feed.ensures.end w.given.known.2 in
    let whole : refusal_of feed.end ≡ None = sym c.refusal.ensures ∙ c.in_default.is in
    let window = executed-window known (g.D.Disk.known feed.disk.now) procs old feed.reader.now.gate c.args.tables.rows c.execution_of.result w.batches missing feed.missing some feed.end of_log bodies c.in_ok-executed.ensures.over whole outcome in
    let last = subst (λ (b : Bool). IsExecutedWindow known procs old feed.reader.now.gate c.args.tables.rows c.execution_of.result b) (sym c.is_at_end.ensures) window in
    subst (λ (gate : NextGate). IsExecutedWindow known procs old gate c.args.tables.rows c.execution_of.result c.is_at_end.result) (search rules) last
