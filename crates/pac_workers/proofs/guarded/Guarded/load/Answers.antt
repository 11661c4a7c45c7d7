-- The twins showed one job, and show it with the batch.
use Rattle.std.proofs.Common.{◌≡◌, ◌∙◌, false, sym, subst, true≢false}
use Rattle.std.specs.List.{AllByRecursion}
use Rattle.pac_ops.specs.Shapes.{TxnFitsTypes}
use Rattle.pac_workers.specs.Twins.{IsShown}
use Rattle.pac_workers.proofs.LoadedOne.{from_ok, on_ok, one_more}
use Rattle.pac_workers.proofs.Showing.{same_told, shown_of, tells_of}
use Rattle.pac_workers.proofs.guarded.Guarded.load.Goals.{then-is_err, else-is_err}
use Rattle.pac_workers.proofs.guarded.Guarded.load.Goals as goal

pub show-requires-clause-one : goal.show-requires-clause-one
show-requires-clause-one g c =
    let job = g.M.Machine.job in
    let is_closed = g.M.Machine.is_closed in
    let id = g.L.Lent.pair in
    let s = c.args.self.now in
    let told = tells_of job is_closed g.M.Machine.coded id s.machine s.twin s.of_pair s.alone s.free s.same_job s.same_closed in
    let shown = shown_of job is_closed id (job s.machine) (is_closed s.machine) s.twin told in
    (shown.0, subst (λ i. IsShown i shown.0 s.twin) (sym c.requires.pair) shown.1)

pub load-loaded-requires-clause-fits : goal.load-loaded-requires-clause-fits
load-loaded-requires-clause-fits g c =
    let job = g.M.Machine.job in
    let is_closed = g.M.Machine.is_closed in
    let id = g.L.Lent.pair in
    let s = c.args.self.now in
    let mine = c.requires.mine in
    let told = tells_of job is_closed g.M.Machine.coded id s.machine s.twin s.of_pair s.alone s.free s.same_job s.same_closed in
    let same : job s.machine ≡ mine.0 = (same_told job is_closed id id (job s.machine) mine.0 (is_closed s.machine) false s.twin c.args.mine.now c.show.ensures.same told mine.1).0 in
    subst (λ a. AllByRecursion (TxnFitsTypes (g.M.Loads.params a) (g.M.Loads.tables a)) c.args.batch.txns) (sym same) mine.3

pub returns : goal.returns
returns g c = λ all tells. on_ok c.load-loaded.result _ (λ ok.
    let job = g.M.Machine.job in
    let is_closed = g.M.Machine.is_closed in
    let id = g.L.Lent.pair in
    let s = c.args.self.now in
    let new = c.load-loaded.new.self in
    let loaded = c.load-loaded.ensures in
    let told = tells_of job is_closed g.M.Machine.coded id s.machine s.twin s.of_pair s.alone s.free s.same_job s.same_closed in
    let same = same_told job is_closed id id (job s.machine) all (is_closed s.machine) false s.twin c.args.mine.now c.show.ensures.same told tells in
    let is_new : c.if-is_err.machine ≡ new = elim c.if-is_err.branch [
      | then-is_err w ↦ absurd (true≢false (sym w.if-is_err.true ∙ c.is_err.ensures.value ∙ ok))
      | else-is_err w ↦ w.machine-is
    ] in
    let shown : IsShown id new c.show-2.new.other = subst (λ i. IsShown i new c.show-2.new.other) c.requires.pair (subst (λ m. IsShown c.args.pair.now m c.show-2.new.other) is_new c.show-2.ensures.other) in
    one_more job is_closed g.M.Loads.with_batch g.M.Loads.next_txn g.M.Loads.params g.M.Loads.tables id s.machine new all c.args.batch c.show-2.new.other shown same.0 same.1
    (from_ok c.load-loaded.result _ ok loaded.job) loaded.closed (from_ok c.load-loaded.result _ ok loaded.next) (from_ok c.load-loaded.result _ ok loaded.types))
