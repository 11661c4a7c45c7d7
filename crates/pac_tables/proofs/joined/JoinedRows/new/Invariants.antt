-- No table so far has rows.
use Rattle.std.proofs.Common.{◌≡◌, map as map_list, length}
use Rattle.std.specs.FinMap as map
use Rattle.pac_tables.specs.Joined.{joined_tables}
use Rattle.pac_tables.proofs.joined.JoinedRows.new.Given as goal

abbrev pub invariant-loop : goal.invariant-loop
invariant-loop g l = (length l.all.items ≡ l.counter) × (joined_tables (map_list g.T.TableRows.rows l.all.items) ≡ map.empty)
