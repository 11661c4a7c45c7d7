-- What is left to execute is well-formed, and gives what all gives.
use Rattle.std.proofs.Common.{◌≡◌, ◌+◌, ◌*◌, ◌==◌, ◌||◌, ◌-ℤ◌, ◌≤ℤ◌, ℕ, IsSome, map, drop, take}
use Rattle.std.specs.FinMap.{contains_key}
use Rattle.pac_value.specs.Expressions.{types_of}
use Rattle.pac_value.specs.State.{Cell}
use Rattle.pac_types.specs.WellFormed.{check, any_defines, scope_after_all}
use Rattle.pac_serial.specs.TextMeaning.{code, code_count, run_turns, turn_cells, text_meaning, text_cells}
use Rattle.pac_types.specs.Unrolled.{natural, turn_numbers}
use Rattle.pac_serial.specs.Writes.{is_among}
use Rattle.pac_serial.specs.Outcomes.{KeepsTypes}
use Rattle.pac_serial.specs.Transactions.{state_of, RunsOver}
use Rattle.pac_serial.proofs.statement.+exec.Given as goal

abbrev pub invariant-exec_block-loop-i : goal.invariant-exec_block-loop-i
invariant-exec_block-loop-i g l = record {
  well_formed : IsSome (scope_after_all l.tables (drop l.i l.stmts) (types_of l.txn.env));
  over : RunsOver l.tables (g.R.Rows.tables l.rows) (g.R.Rows.held l.rows) l.txn.write_set;
  so_far : (n : ℕ) → text_meaning (drop l.i l.stmts) (n + code_count (take l.i l.stmts)) (state_of (g.R.Rows.held l.rows) l.txn) ≡ text_meaning l.stmts n (state_of (g.R.Rows.held l.rows) l.fn.txn);
  written : (n : ℕ) (q : Cell) → (is_among q (text_cells (drop l.i l.stmts) (n + code_count (take l.i l.stmts)) (state_of (g.R.Rows.held l.rows) l.txn)) || contains_key l.txn.write_set q)
      ≡ (is_among q (text_cells l.stmts n (state_of (g.R.Rows.held l.rows) l.fn.txn)) || contains_key l.fn.txn.write_set q);
  number : code_count (take l.i l.stmts) + code_count (drop l.i l.stmts) ≡ code_count l.stmts;
  keeps : KeepsTypes (any_defines (map (check l.tables) l.stmts)) l.fn.txn.env l.txn.env;
}

abbrev pub invariant-exec_turns-loop-number : goal.invariant-exec_turns-loop-number
invariant-exec_turns-loop-number g l = record {
  up : l.from ≤ℤ l.number;
  over : RunsOver l.tables (g.R.Rows.tables l.rows) (g.R.Rows.held l.rows) l.txn.write_set;
  keeps : KeepsTypes (λ y. y == l.var || any_defines (map (check l.tables) l.body) y) l.fn.txn.env l.txn.env;
  so_far : (n : ℕ) → run_turns l.var (map code l.body) (turn_numbers l.number l.to) (n + natural (l.number -ℤ l.from) * code_count l.body) (state_of (g.R.Rows.held l.rows) l.txn)
      ≡ run_turns l.var (map code l.body) (turn_numbers l.from l.to) n (state_of (g.R.Rows.held l.rows) l.fn.txn);
  written : (n : ℕ) (q : Cell) → (is_among q (turn_cells l.var (map code l.body) (turn_numbers l.number l.to) (n + natural (l.number -ℤ l.from) * code_count l.body) (state_of (g.R.Rows.held l.rows) l.txn)) || contains_key l.txn.write_set q)
      ≡ (is_among q (turn_cells l.var (map code l.body) (turn_numbers l.from l.to) n (state_of (g.R.Rows.held l.rows) l.fn.txn)) || contains_key l.fn.txn.write_set q);
}
