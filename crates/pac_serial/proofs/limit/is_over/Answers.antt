-- The count that the table will have, by what is added and taken away.
use Rattle.std.proofs.Common.{arith, refl}
use Rattle.std.specs.FinMap as map
use Rattle.std.proofs.lemmas.Bool.Decides.{nat_tests}
use Rattle.pac_serial.proofs.BalanceLemmas.{seen-count, gained-few}
use Rattle.pac_serial.proofs.limit.is_over.Goals as goal

pub returns-then-has_room : goal.returns-then-has_room
returns-then-has_room g c =
    let held = g.R.Rows.held c.args.rows.now in
    let changes = c.args.write_set.now in
    grind (arith, nat_tests, seen-count c.args.table held changes, gained-few held c.args.table (map.entries changes), c.if-has_room.ensures refl, c.len.ensures, c.count-count.ensures)

pub returns : goal.returns
returns g c = grind (arith, nat_tests, seen-count c.args.table (g.R.Rows.held c.args.rows.now) c.args.write_set.now, c.balance-gained.ensures.gained, c.balance-gained.ensures.lost, c.count-count.ensures)
