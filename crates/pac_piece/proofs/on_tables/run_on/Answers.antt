-- It is the code of a piece of a plan, and each table that it accesses is there.
use Rattle.std.proofs.Common.{sym, subst}
use Rattle.pac_plan.specs.Codes.{code_ops}
use Rattle.pac_tables.specs.Written.{AreWithin}
use Rattle.pac_piece.specs.Values.{IsEndOver, state_over}
use Rattle.pac_piece.proofs.KeptLemmas.{end_of}
use Rattle.pac_piece.proofs.RunnableLemmas.{runnable}
use Rattle.pac_piece.proofs.TableLemmas.{runnable_tables, writes_there}
use Rattle.pac_piece.proofs.on_tables.run_on.Goals as goal

pub run_code-requires-clause-can : goal.run_code-requires-clause-can
run_code-requires-clause-can g c = runnable c.args.piece.block c.args.code.now c.args.env (g.R.Rows.held c.args.rows.now) c.requires.runnable

pub run_code-requires-clause-there : goal.run_code-requires-clause-there
run_code-requires-clause-there g c = runnable_tables c.args.piece.block c.args.code.now c.args.env (g.R.Rows.tables c.args.rows.now) (g.R.Rows.held c.args.rows.now) c.requires

pub returns-clause-value : goal.returns-clause-value
returns-clause-value g c =
    let held = g.R.Rows.held c.args.rows.now in
    let frame = c.in_ok-env.field-0 in
    subst (λ (ws : _). IsEndOver c.args.piece.txn c.args.code.now c.args.env held ws frame.env frame.note) (sym c.of.ensures)
    (end_of c.args.piece.txn c.args.code.now c.args.env held _ frame c.in_ok-env.ensures)

pub returns-clause-within : goal.returns-clause-within
returns-clause-within g c =
    let code = c.args.code.now in
    let held = g.R.Rows.held c.args.rows.now in
    let tables = g.R.Rows.tables c.args.rows.now in
    subst (λ (ws : _). AreWithin tables ws) (sym c.of.ensures)
    (writes_there tables (code_ops code) (state_over c.args.env held) c.in_ok-env.field-0.writes.items (runnable_tables c.args.piece.block code c.args.env tables held c.requires) c.in_ok-env.ensures.changed)
