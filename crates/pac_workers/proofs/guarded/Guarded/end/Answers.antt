-- The twin beside the machine shows one.
use Rattle.std.proofs.Common.{sym, subst}
use Rattle.pac_workers.specs.Twins.{IsShown}
use Rattle.pac_workers.proofs.Showing.{shown_of, tells_of}
use Rattle.pac_workers.proofs.guarded.Guarded.end.Goals as goal

pub show-requires-clause-one : goal.show-requires-clause-one
show-requires-clause-one g c =
    let job = g.M.Machine.job in
    let is_closed = g.M.Machine.is_closed in
    let id = g.L.Lent.pair in
    let s = c.args.self.now in
    let told = tells_of job is_closed g.M.Machine.coded id s.machine s.twin s.of_pair s.alone s.free s.same_job s.same_closed in
    let shown = shown_of job is_closed id (job s.machine) (is_closed s.machine) s.twin told in
    (shown.0, subst (λ i. IsShown i shown.0 s.twin) (sym c.requires.pair) shown.1)
