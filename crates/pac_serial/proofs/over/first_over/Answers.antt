-- The table at hand is the first that is over the limit.
use Rattle.std.proofs.Common.{◌≡◌, ℕ, Some, length, nat_lt, true, sym, ap, ◌∙◌, arith}
use Rattle.std.proofs.lemmas.Bool.Decides.{nat_tests}
use Rattle.pac_value.specs.State.{keys_of}
use Rattle.pac_serial.proofs.LimitLemmas.{over-first}
use Rattle.pac_serial.proofs.over.first_over.Goals as goal

pub returns-then-limit-count : goal.returns-then-limit-count
returns-then-limit-count g c =
    let held = g.R.Rows.held c.args.rows.now in
    let over : nat_lt c.args.limit (length (keys_of held c.loop-table.table)) ≡ true = grind (arith, nat_tests, c.if-limit-count.true, c.count-count.ensures) in
    ap (λ (n : ℕ). Some (c.loop-table.table, n)) c.count-count.ensures
    ∙ sym (over-first c.args.limit c.loop-table.table (g.R.Rows.tables c.args.rows.now) held c.loop-table.invariant over (omega (arith, c.loop-table-test.true)))
