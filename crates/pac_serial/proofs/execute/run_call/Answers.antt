-- The call begins with its arguments, over the tables as they are.
use Rattle.std.proofs.Common.{Ok, Err, Result, List, IsSome, ap, sym, subst, ◌∙◌, arith}
use Rattle.std.proofs.lemmas.Result.{err_from_is_err_and}
use Rattle.std.specs.Prelude.{slice_index_or}
use Rattle.pac_value.specs.Expressions.{types_of, ◌>>=◌}
use Rattle.std.specs.FinMap.{empty}
use Rattle.pac_value.specs.State.{Cell, Tables}
use Rattle.pac_types.specs.declared.procedure.Proc.{Proc}
use Rattle.pac_types.specs.declared.statement.Stmt.{Stmt}
use Rattle.pac_types.specs.declared.table.Table.{Table}
use Rattle.pac_types.specs.WellFormed.{scope_after_all}
use Rattle.pac_types.specs.Typing.{IsProc}
use Rattle.pac_types.specs.Meaning.{Abort}
use Rattle.pac_serial.specs.TextMeaning.{code_count, text_meaning, text_cells}
use Rattle.pac_ops.specs.Operations.{State}
use Rattle.pac_serial.specs.Outcomes.{RunsAsMeant}
use Rattle.pac_serial.specs.WriteSets.{Changes, as_changed, ChangesAt}
use Rattle.pac_serial.specs.Transactions.{RunsOver, state_of}
use Rattle.pac_serial.proofs.CallLemmas.{at-call, is-proc, few-operations, runs-begun, called-is, called-writes, halted}
use Rattle.pac_serial.proofs.OpeningLemmas.{opening-well_formed}
use Rattle.pac_serial.proofs.execute.run_call.Goals as goal

pub exec_block-requires-clause-well_formed : goal.exec_block-requires-clause-well_formed
exec_block-requires-clause-well_formed g c =
    let cat = c.args.cat.now in
    let proc = c.index-procs-from.result in
    let found = at-call cat.procs c.args.proc c.args.args.now c.from.result proc c.requires.call c.from.ensures (c.index-procs-from.is ∙ ap (λ (ps : List Proc). slice_index_or ps c.from.result proc) c.procs.ensures.value) in
    let is : IsProc cat.tables proc = is-proc cat.tables cat.procs c.args.proc proc found.0 c.procs.ensures.well_formed in
    subst (λ (ts : List Table). IsSome (scope_after_all ts c.as_slice.result.now (types_of c.begin.new.self.env))) (sym c.tables.ensures.value)
    (subst (λ (xs : List Stmt). IsSome (scope_after_all cat.tables xs (types_of c.begin.new.self.env))) (sym c.as_slice.ensures)
    (opening-well_formed cat.tables proc c.args.args.now c.args.txn.now.env c.begin.new.self.env is.well_formed found.1 c.in_ok-begin.ensures.env))

pub exec_block-requires-clause-numbers : goal.exec_block-requires-clause-numbers
exec_block-requires-clause-numbers g c =
    let cat = c.args.cat.now in
    let proc = c.index-procs-from.result in
    let found = at-call cat.procs c.args.proc c.args.args.now c.from.result proc c.requires.call c.from.ensures (c.index-procs-from.is ∙ ap (λ (ps : List Proc). slice_index_or ps c.from.result proc) c.procs.ensures.value) in
    omega (arith, ap code_count c.as_slice.ensures, few-operations cat.procs c.args.proc proc found.0 c.requires.few)

pub exec_block-requires-clause-over : goal.exec_block-requires-clause-over
exec_block-requires-clause-over g c =
    let cat = c.args.cat.now in
    subst (λ (ts : List Table). RunsOver ts (g.R.Rows.tables c.args.rows.now) (g.R.Rows.held c.args.rows.now) c.begin.new.self.write_set) (sym c.tables.ensures.value)
    (runs-begun cat.tables (g.R.Rows.tables c.args.rows.now) (g.R.Rows.held c.args.rows.now) c.begin.new.self.write_set c.requires.fits.count c.requires.fits.rows c.in_ok-begin.ensures.write_set)

pub returns-in_err-exec_block-clause-does : goal.returns-in_err-exec_block-clause-does
returns-in_err-exec_block-clause-does g c =
    let cat = c.args.cat.now in
    let held = g.R.Rows.held c.args.rows.now in
    let proc = c.index-procs-from.result in
    let found = at-call cat.procs c.args.proc c.args.args.now c.from.result proc c.requires.call c.from.ensures (c.index-procs-from.is ∙ ap (λ (ps : List Proc). slice_index_or ps c.from.result proc) c.procs.ensures.value) in
    let is : IsProc cat.tables proc = is-proc cat.tables cat.procs c.args.proc proc found.0 c.procs.ensures.well_formed in
    let seen = as_changed held c.exec_block.new.txn.write_set in
    let means = called-is cat.tables cat.procs c.args.proc proc c.args.args.now held c.args.txn.now.env c.begin.new.self.env c.begin.new.self.write_set is found.1 found.0 c.in_ok-begin.ensures.env c.in_ok-begin.ensures.write_set
    ∙ ap (λ xs. text_meaning xs 0 (state_of held c.begin.new.self) >>= λ s. Ok s.tables) (sym c.as_slice.ensures) in
    let p = err_from_is_err_and c.from_residual-in_err-exec_block.result c.from_residual-in_err-exec_block.ensures.1 in
    subst (λ (m : Result Tables Abort). RunsAsMeant m seen c.from_residual-in_err-exec_block.result) (sym means)
    (halted (text_meaning c.as_slice.result.now 0 (state_of held c.begin.new.self)) c.in_err-exec_block.field-0.0 (state_of held c.exec_block.new.txn) seen
    c.exec_block.result c.from_residual-in_err-exec_block.result c.in_err-exec_block.was (p.1 ∙ ap Err p.2) (c.exec_block.ensures.runs 0))

pub returns-clause-does : goal.returns-clause-does
returns-clause-does g c =
    let cat = c.args.cat.now in
    let held = g.R.Rows.held c.args.rows.now in
    let proc = c.index-procs-from.result in
    let found = at-call cat.procs c.args.proc c.args.args.now c.from.result proc c.requires.call c.from.ensures (c.index-procs-from.is ∙ ap (λ (ps : List Proc). slice_index_or ps c.from.result proc) c.procs.ensures.value) in
    let is : IsProc cat.tables proc = is-proc cat.tables cat.procs c.args.proc proc found.0 c.procs.ensures.well_formed in
    called-is cat.tables cat.procs c.args.proc proc c.args.args.now held c.args.txn.now.env c.begin.new.self.env c.begin.new.self.write_set is found.1 found.0 c.in_ok-begin.ensures.env c.in_ok-begin.ensures.write_set
    ∙ ap (λ (r : Result State Abort). r >>= λ s. Ok s.tables) (ap (λ xs. text_meaning xs 0 (state_of held c.begin.new.self)) (sym c.as_slice.ensures) ∙ c.in_ok-exec_block.ensures.runs 0)

pub returns-clause-writes : goal.returns-clause-writes
returns-clause-writes g c =
    let cat = c.args.cat.now in
    let held = g.R.Rows.held c.args.rows.now in
    let proc = c.index-procs-from.result in
    let found = at-call cat.procs c.args.proc c.args.args.now c.from.result proc c.requires.call c.from.ensures (c.index-procs-from.is ∙ ap (λ (ps : List Proc). slice_index_or ps c.from.result proc) c.procs.ensures.value) in
    let is : IsProc cat.tables proc = is-proc cat.tables cat.procs c.args.proc proc found.0 c.procs.ensures.well_formed in
    let cells = called-writes cat.tables cat.procs c.args.proc proc c.args.args.now held c.args.txn.now.env c.begin.new.self.env c.begin.new.self.write_set (state_of held c.exec_block.new.txn) is found.1 found.0 c.in_ok-begin.ensures.env c.in_ok-begin.ensures.write_set
    (ap (λ xs. text_meaning xs 0 (state_of held c.begin.new.self)) (sym c.as_slice.ensures) ∙ c.in_ok-exec_block.ensures.runs 0)
    ∙ ap (λ xs. text_cells xs 0 (state_of held c.begin.new.self)) (sym c.as_slice.ensures) in
    subst (λ (cs : List Cell). ChangesAt cs empty c.exec_block.new.txn.write_set) (sym cells)
    (subst (λ (old : Changes). ChangesAt (text_cells c.as_slice.result.now 0 (state_of held c.begin.new.self)) old c.exec_block.new.txn.write_set) c.in_ok-begin.ensures.write_set (c.in_ok-exec_block.ensures.writes 0))
