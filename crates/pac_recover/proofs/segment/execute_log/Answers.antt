-- What is passed over, and then what is executed.
use Rattle.std.proofs.Common.{inl, true}
use Rattle.pac_restore.proofs.FromLemmas.{damage-from, read-all}
use Rattle.pac_restore.proofs.OpenLemmas.{in-log-then}
use Rattle.pac_recover.proofs.RestLemmas.{err-then, has-executed, ok-then}
use Rattle.pac_recover.proofs.segment.execute_log.Goals as goal

pub returns-clause-executed : goal.returns-clause-executed
returns-clause-executed g c =
    let mid = c.seek_newest.new.reader.gate in
    let now = g.D.Disk.known c.seek_newest.new.disk in
    ok-then c.execute_rest.result c.execute_rest.ensures.executed (λ executed handed.
    read-all c.args.newest c.args.reader.now.gate mid c.execute_rest.new.reader.gate _ (g.D.Disk.known c.args.disk.now) now c.in_ok-seek_newest.ensures.same c.in_ok-seek_newest.ensures.sought
    (has-executed c.args.cat.now c.args.tables.rows executed now mid c.execute_rest.new.reader.gate handed))

pub returns-clause-refused : goal.returns-clause-refused
returns-clause-refused g c =
    let mid = c.seek_newest.new.reader.gate in
    let now = g.D.Disk.known c.seek_newest.new.disk in
    err-then c.execute_rest.result c.execute_rest.ensures.refused (λ e is.
    inl (in-log-then c.args.name _ _ e (λ at kind damaged header. damage-from header c.args.newest c.args.reader.now.gate mid true at kind (g.D.Disk.known c.args.disk.now) now c.in_ok-seek_newest.ensures.same c.in_ok-seek_newest.ensures.sought (damaged header)) is))
