-- Each form of a statement runs as its operation does, and leaves the variables that it says.
use Rattle.std.proofs.Common.{◌≡◌, ◌∷◌, ◌+◌, ◌-◌, ◌*◌, ℕ, pos, ◌+ℤ◌, ◌-ℤ◌, ◌<ℤ◌, ◌≤ℤ◌, ◌||◌, ap, sym, subst, ◌∙◌, arith, rules, map, drop, take, IsSome, IfErr, Result, List, FitsSigned, w64, to_z, of_z}
use Rattle.std.proofs.lemmas.Int.{ints, to_z-of_z}
use Rattle.std.proofs.lemmas.List.{drop_more}
use Rattle.std.specs.FinMap.{contains_key}
use Rattle.pac_value.specs.Expressions.{Values, types_of}
use Rattle.pac_types.specs.declared.statement.Stmt.{Stmt}
use Rattle.pac_types.specs.WellFormed.{scope_after, scope_after_all, check, any_defines}
use Rattle.pac_types.specs.Meaning.{Abort}
use Rattle.pac_serial.specs.TextMeaning.{Code, code_step, code, code_count, run_turns, turn_cells, text_meaning, text_cells}
use Rattle.pac_value.specs.declared.values.Value.TheVariants.{Int}
use Rattle.pac_ops.specs.Operations.{State, define}
use Rattle.pac_types.specs.Unrolled.{natural, turns, turn_numbers}
use Rattle.pac_types.proofs.StmtForms.{at-For}
use Rattle.pac_serial.specs.declared.operation.Halt.{Halt}
use Rattle.pac_serial.specs.Writes.{is_among}
use Rattle.pac_value.specs.State.{Cell}
use Rattle.pac_serial.specs.WriteSets.{as_changed, ChangesAt}
use Rattle.pac_serial.proofs.WritesLemmas.{writes-on}
use Rattle.pac_serial.proofs.TurnRunLemmas.{turn-well_formed, turn-runs, turn-writes, turn-aborts, turn-within, turn-keeps, up-one, Failed, moved-runs, moved-within, within-more}
use Rattle.pac_serial.specs.Outcomes.{RunsFrom, IsHaltWithin, moved, Sees}
use Rattle.pac_serial.specs.Transactions.{state_of}
use Rattle.pac_serial.proofs.ExecLemmas.{keeps-Let, sees-Read, keeps-Read, sees-Has, keeps-Has, sees-Put, sees-Set, sees-If, keeps-If, keeps-Else, on-ok, rest-well_formed, defines-at}
use Rattle.pac_serial.proofs.RunLemmas.{within-Let, within-AbortIf, operations-more, runs-on}
use Rattle.pac_serial.proofs.statement.+exec.Goals as goal

pub exec_stmt-returns-in-Let-clause-within : goal.exec_stmt-returns-in-Let-clause-within
exec_stmt-returns-in-Let-clause-within g t c = within-Let c.args.stmt.now c.in-Let.var c.in-Let.value c.in-Let.is c.assign.result _ _ (c.assign.ensures.does (g.R.Rows.held c.args.rows.now))

pub exec_stmt-returns-in-Let-clause-keeps : goal.exec_stmt-returns-in-Let-clause-keeps
exec_stmt-returns-in-Let-clause-keeps g t c = on-ok c.assign.result _ _ (keeps-Let c.args.tables.now c.args.stmt.now c.args.txn.now.env c.assign.new.txn.env c.in-Let.var c.in-Let.value c.in-Let.is) c.assign.ensures.types

pub exec_stmt-returns-in-Read-clause-sees : goal.exec_stmt-returns-in-Read-clause-sees
exec_stmt-returns-in-Read-clause-sees g t c = on-ok c.read.result _ _ (λ e.
    sees-Read c.args.tables.now c.args.stmt.now c.args.txn.now.env c.read.new.txn.env c.in-Read.var c.in-Read.table c.in-Read.key c.in-Read.column c.in-Read.default c.in-Read.is e c.requires.well_formed) c.read.ensures.types

pub exec_stmt-returns-in-Read-clause-keeps : goal.exec_stmt-returns-in-Read-clause-keeps
exec_stmt-returns-in-Read-clause-keeps g t c = on-ok c.read.result _ _
    (keeps-Read c.args.tables.now c.args.stmt.now c.args.txn.now.env c.read.new.txn.env c.in-Read.var c.in-Read.table c.in-Read.key c.in-Read.column c.in-Read.default c.in-Read.is) c.read.ensures.types

pub exec_stmt-returns-in-Has-clause-sees : goal.exec_stmt-returns-in-Has-clause-sees
exec_stmt-returns-in-Has-clause-sees g t c = on-ok c.has.result _ _ (λ e.
    sees-Has c.args.tables.now c.args.stmt.now c.args.txn.now.env c.has.new.txn.env c.in-Has.var c.in-Has.table c.in-Has.key c.in-Has.is e c.requires.well_formed) c.has.ensures.types

pub exec_stmt-returns-in-Has-clause-keeps : goal.exec_stmt-returns-in-Has-clause-keeps
exec_stmt-returns-in-Has-clause-keeps g t c = on-ok c.has.result _ _
    (keeps-Has c.args.tables.now c.args.stmt.now c.args.txn.now.env c.has.new.txn.env c.in-Has.var c.in-Has.table c.in-Has.key c.in-Has.is) c.has.ensures.types

pub exec_stmt-returns-in-Put-clause-sees : goal.exec_stmt-returns-in-Put-clause-sees
exec_stmt-returns-in-Put-clause-sees g t c = on-ok c.put.result _ _ (λ o.
    subst (λ (m : Values). Sees (scope_after c.args.tables.now c.args.stmt.now (types_of c.args.txn.now.env)) m) (sym c.put.ensures.env)
    (sees-Put c.args.tables.now c.args.stmt.now c.args.txn.now.env c.in-Put.table c.in-Put.key c.in-Put.values c.in-Put.is c.requires.well_formed)) c.put.ensures.over

pub exec_stmt-returns-in-Set-clause-sees : goal.exec_stmt-returns-in-Set-clause-sees
exec_stmt-returns-in-Set-clause-sees g t c = on-ok c.set.result _ _ (λ o.
    subst (λ (m : Values). Sees (scope_after c.args.tables.now c.args.stmt.now (types_of c.args.txn.now.env)) m) (sym c.set.ensures.env)
    (sees-Set c.args.tables.now c.args.stmt.now c.args.txn.now.env c.in-Set.table c.in-Set.key c.in-Set.column c.in-Set.value c.in-Set.is c.requires.well_formed)) c.set.ensures.over

pub exec_stmt-returns-in-AbortIf-clause-within : goal.exec_stmt-returns-in-AbortIf-clause-within
exec_stmt-returns-in-AbortIf-clause-within g t c = within-AbortIf c.args.stmt.now c.in-AbortIf.test c.in-AbortIf.is c.abort_if.result _ _ (c.abort_if.ensures (g.R.Rows.held c.args.rows.now))

pub exec_stmt-returns-in-Ok-clause-sees : goal.exec_stmt-returns-in-Ok-clause-sees
exec_stmt-returns-in-Ok-clause-sees g t c =
    sees-If c.args.tables.now c.args.stmt.now c.args.txn.now.env c.exec_block.new.txn.env c.in-If.var c.in-If.test c.in-If.first c.in-If.second c.define.new.env c.in-If.is c.in_ok-define-in-If.ensures.types
    (λ y p q. c.in-Ok.ensures.keeps y (ap (λ xs. any_defines (map (check c.args.tables.now) xs) y) c.as_slice-then-truth.ensures ∙ p)) c.requires.well_formed

pub exec_stmt-returns-in-Ok-clause-keeps : goal.exec_stmt-returns-in-Ok-clause-keeps
exec_stmt-returns-in-Ok-clause-keeps g t c =
    keeps-If c.args.tables.now c.args.stmt.now c.args.txn.now.env c.exec_block.new.txn.env c.in-If.var c.in-If.test c.in-If.first c.in-If.second c.define.new.env c.in-If.is c.in_ok-define-in-If.ensures.types
    (λ y p. c.in-Ok.ensures.keeps y (ap (λ xs. any_defines (map (check c.args.tables.now) xs) y) c.as_slice-then-truth.ensures ∙ p))

pub exec_stmt-returns-in-Ok-exec_block-clause-sees : goal.exec_stmt-returns-in-Ok-exec_block-clause-sees
exec_stmt-returns-in-Ok-exec_block-clause-sees g t c =
    sees-If c.args.tables.now c.args.stmt.now c.args.txn.now.env c.exec_block-else-truth.new.txn.env c.in-If.var c.in-If.test c.in-If.first c.in-If.second c.define.new.env c.in-If.is c.in_ok-define-in-If.ensures.types
    (λ y p q. c.in-Ok-exec_block.ensures.keeps y (ap (λ xs. any_defines (map (check c.args.tables.now) xs) y) c.as_slice-else-truth.ensures ∙ q)) c.requires.well_formed

pub exec_stmt-returns-in-Ok-exec_block-clause-keeps : goal.exec_stmt-returns-in-Ok-exec_block-clause-keeps
exec_stmt-returns-in-Ok-exec_block-clause-keeps g t c =
    keeps-Else c.args.tables.now c.args.stmt.now c.args.txn.now.env c.exec_block-else-truth.new.txn.env c.in-If.var c.in-If.test c.in-If.first c.in-If.second c.define.new.env c.in-If.is c.in_ok-define-in-If.ensures.types
    (λ y p. c.in-Ok-exec_block.ensures.keeps y (ap (λ xs. any_defines (map (check c.args.tables.now) xs) y) c.as_slice-else-truth.ensures ∙ p))

pub exec_block-loop-i-preserved : goal.exec_block-loop-i-preserved
exec_block-loop-i-preserved g t c =
    let i = c.loop-i.i in
    let stmts = c.args.stmts.now in
    let stmt = c.index-stmts-i.result in
    let held = g.R.Rows.held c.args.rows.now in
    let rest : drop i stmts ≡ stmt ∷ drop (i + 1) stmts = drop_more stmts i stmt c.loop-i-test.true ∙ ap (λ s. s ∷ drop (i + 1) stmts) (sym c.index-stmts-i.is) in
    let more : code_count (take (i + 1) stmts) ≡ code_count (take i stmts) + (code stmt).count = operations-more stmts i stmt c.loop-i-test.true c.index-stmts-i.is in
    record {
      well_formed = rest-well_formed c.args.tables.now stmt (drop (i + 1) stmts) (types_of c.loop-i.txn.env) c.exec_stmt.new.txn.env
          (subst (λ (xs : List Stmt). IsSome (scope_after_all c.args.tables.now xs (types_of c.loop-i.txn.env))) rest c.loop-i.invariant.well_formed) c.in-Ok.ensures.sees;
      over = c.in-Ok.ensures.over;
      so_far = λ n. ap (λ m. text_meaning (drop (i + 1) stmts) (n + m) (state_of held c.exec_stmt.new.txn)) more
          ∙ runs-on stmt (drop (i + 1) stmts) n (code_count (take i stmts)) (state_of held c.loop-i.txn) (state_of held c.exec_stmt.new.txn) (c.in-Ok.ensures.runs (n + code_count (take i stmts)))
          ∙ sym (ap (λ xs. text_meaning xs (n + code_count (take i stmts)) (state_of held c.loop-i.txn)) rest)
          ∙ c.loop-i.invariant.so_far n;
      written = λ n q. ap (λ m. is_among q (text_cells (drop (i + 1) stmts) (n + m) (state_of held c.exec_stmt.new.txn)) || contains_key c.exec_stmt.new.txn.write_set q) more
          ∙ writes-on stmt (drop (i + 1) stmts) n (code_count (take i stmts)) (state_of held c.loop-i.txn) (state_of held c.exec_stmt.new.txn) c.loop-i.txn.write_set c.exec_stmt.new.txn.write_set (c.in-Ok.ensures.runs (n + code_count (take i stmts))) (c.in-Ok.ensures.writes (n + code_count (take i stmts))) q
          ∙ sym (ap (λ xs. is_among q (text_cells xs (n + code_count (take i stmts)) (state_of held c.loop-i.txn)) || contains_key c.loop-i.txn.write_set q) rest)
          ∙ c.loop-i.invariant.written n q;
      number = omega (arith, more, ap code_count rest, c.loop-i.invariant.number);
      keeps = λ y h. c.in-Ok.ensures.keeps y (ap (λ s. (check c.args.tables.now s).defines y) c.index-stmts-i.is ∙ defines-at c.args.tables.now stmts i stmt y h c.loop-i-test.true) ∙ c.loop-i.invariant.keeps y h;
    }

pub exec_stmt-returns-in-For-clause-runs : goal.exec_stmt-returns-in-For-clause-runs
exec_stmt-returns-in-For-clause-runs g t c =
    let e = c.in-For in
    let held = g.R.Rows.held c.args.rows.now in
    let fits_from : FitsSigned w64 e.from = search rules in
    let fits_to : FitsSigned w64 e.to = search rules in
    let does : (code c.args.stmt.now).run ≡ run_turns e.var (map code c.as_slice-in-For.result.now) (turn_numbers (to_z w64 (of_z w64 e.from)) (to_z w64 (of_z w64 e.to))) =
    ap (λ (k : Code). k.run) (at-For Code code_step c.args.stmt.now e.var e.from e.to e.body e.is)
    ∙ (λ i. run_turns e.var (map code (sym c.as_slice-in-For.ensures i)) (turn_numbers (sym (to_z-of_z w64 e.from fits_from) i) (sym (to_z-of_z w64 e.to fits_to) i))) in
    λ n. subst (λ (run : ℕ → State → Result State Abort). RunsFrom n c.exec_turns.result (run n (state_of held c.args.txn.now)) (state_of held c.exec_turns.new.txn)) (sym does) (c.exec_turns.ensures.runs n)

pub exec_stmt-returns-in-For-clause-writes : goal.exec_stmt-returns-in-For-clause-writes
exec_stmt-returns-in-For-clause-writes g t c =
    let e = c.in-For in
    let held = g.R.Rows.held c.args.rows.now in
    let fits_from : FitsSigned w64 e.from = search rules in
    let fits_to : FitsSigned w64 e.to = search rules in
    let cells : (code c.args.stmt.now).cells ≡ turn_cells e.var (map code c.as_slice-in-For.result.now) (turn_numbers (to_z w64 (of_z w64 e.from)) (to_z w64 (of_z w64 e.to))) =
    ap (λ (k : Code). k.cells) (at-For Code code_step c.args.stmt.now e.var e.from e.to e.body e.is)
    ∙ (λ i. turn_cells e.var (map code (sym c.as_slice-in-For.ensures i)) (turn_numbers (sym (to_z-of_z w64 e.from fits_from) i) (sym (to_z-of_z w64 e.to fits_to) i))) in
    on-ok c.exec_turns.result _ _ (λ writes n.
    subst (λ (written : ℕ → State → List Cell). ChangesAt (written n (state_of held c.args.txn.now)) c.args.txn.now.write_set c.exec_turns.new.txn.write_set) (sym cells) (writes n)) c.exec_turns.ensures.writes

pub exec_stmt-returns-in-For-clause-within : goal.exec_stmt-returns-in-For-clause-within
exec_stmt-returns-in-For-clause-within g t c =
    let e = c.in-For in
    let fits_from : FitsSigned w64 e.from = search rules in
    let fits_to : FitsSigned w64 e.to = search rules in
    let count : (code c.args.stmt.now).count ≡ turns (to_z w64 (of_z w64 e.from)) (to_z w64 (of_z w64 e.to)) * code_count c.as_slice-in-For.result.now =
    ap (λ (k : Code). k.count) (at-For Code code_step c.args.stmt.now e.var e.from e.to e.body e.is)
    ∙ (λ i. turns (sym (to_z-of_z w64 e.from fits_from) i) (sym (to_z-of_z w64 e.to fits_to) i) * code_count (sym c.as_slice-in-For.ensures i)) in
    subst (λ k. IfErr c.exec_turns.result (IsHaltWithin k)) (sym count) c.exec_turns.ensures.within

pub exec_turns-exec_block-requires : goal.exec_turns-exec_block-requires
exec_turns-exec_block-requires g t c κs within =
    let n = to_z w64 c.loop-number.number-bits in
    let from = to_z w64 (of_z w64 c.args.from) in
    let to = to_z w64 (of_z w64 c.args.to) in
    let below : n <ℤ to = grind (arith, ints, c.loop-number-test.true) in
    let fits_from : FitsSigned w64 c.args.from = search rules in
    let fits_to : FitsSigned w64 c.args.to = search rules in
    let same : turns from to * code_count c.args.body.now ≡ turns c.args.from c.args.to * code_count c.args.body.now = λ i. turns (to_z-of_z w64 c.args.from fits_from i) (to_z-of_z w64 c.args.to fits_to i) * code_count c.args.body.now in (
      search rules,
      (
        search (rules, within),
        (
          turn-well_formed c.args.tables.now c.args.body.now c.args.var c.args.txn.now.env c.loop-number.txn.env c.define.new.env c.requires.well_formed c.loop-number.invariant.keeps c.in_ok-define.ensures.types,
          (omega (arith, turn-within c.args.var c.args.body.now from n to c.loop-number.invariant.up below, same, c.requires.numbers), c.loop-number.invariant.over),
        ),
      ),
    )

pub exec_turns-after-requires : goal.exec_turns-after-requires
exec_turns-after-requires g t c =
    let n = to_z w64 c.loop-number.number-bits in
    let from = to_z w64 (of_z w64 c.args.from) in
    let to = to_z w64 (of_z w64 c.args.to) in
    let below : n <ℤ to = grind (arith, ints, c.loop-number-test.true) in
    let fits_from : FitsSigned w64 c.args.from = search rules in
    let fits_to : FitsSigned w64 c.args.to = search rules in
    let same : turns from to * code_count c.args.body.now ≡ turns c.args.from c.args.to * code_count c.args.body.now = λ i. turns (to_z-of_z w64 c.args.from fits_from i) (to_z-of_z w64 c.args.to fits_to i) * code_count c.args.body.now in
    within-more (code_count c.args.body.now) (65536 - c.count_before.result) c.in-Err.halt (omega (arith, turn-within c.args.var c.args.body.now from n to c.loop-number.invariant.up below, same, c.requires.numbers, c.count_before.ensures)) c.in-Err.ensures.within

pub exec_turns-returns-in-Err-clause-runs : goal.exec_turns-returns-in-Err-clause-runs
exec_turns-returns-in-Err-clause-runs g t c =
    let held = g.R.Rows.held c.args.rows.now in
    let n = to_z w64 c.loop-number.number-bits in
    let from = to_z w64 (of_z w64 c.args.from) in
    let to = to_z w64 (of_z w64 c.args.to) in
    let below : n <ℤ to = grind (arith, ints, c.loop-number-test.true) in
    let fits_from : FitsSigned w64 c.args.from = search rules in
    let fits_to : FitsSigned w64 c.args.to = search rules in
    let begun : State = record { env = c.define.new.env; tables = as_changed held c.loop-number.txn.write_set } in
    let begins : begun ≡ define c.args.var (Int n) (state_of held c.loop-number.txn) = λ i. record { env = c.in_ok-define.ensures.ok i; tables = as_changed held c.loop-number.txn.write_set } in
    λ m. subst (λ (h : Halt). RunsFrom m (Failed h) (run_turns c.args.var (map code c.args.body.now) (turn_numbers c.args.from c.args.to) m (state_of held c.args.txn.now)) (state_of held c.exec_block.new.txn)) (sym (c.after.ensures ∙ ap (λ k. moved k c.in-Err.halt) c.count_before.ensures))
    (moved-runs c.in-Err.halt m (natural (n -ℤ from) * code_count c.args.body.now) (text_meaning c.args.body.now (m + natural (n -ℤ from) * code_count c.args.body.now) begun) (run_turns c.args.var (map code c.args.body.now) (turn_numbers c.args.from c.args.to) m (state_of held c.args.txn.now))
    (state_of held c.exec_block.new.txn) (state_of held c.exec_block.new.txn) (c.in-Err.ensures.runs (m + natural (n -ℤ from) * code_count c.args.body.now))
    (λ abort h. (λ i. run_turns c.args.var (map code c.args.body.now) (turn_numbers (sym (to_z-of_z w64 c.args.from fits_from) i) (sym (to_z-of_z w64 c.args.to fits_to) i)) m (state_of held c.args.txn.now)) ∙ sym (c.loop-number.invariant.so_far m)
    ∙ turn-aborts c.args.var c.args.body.now from n to c.loop-number.invariant.up below m (state_of held c.loop-number.txn) begun abort begins h))

pub exec_turns-returns-in-Err-clause-within : goal.exec_turns-returns-in-Err-clause-within
exec_turns-returns-in-Err-clause-within g t c =
    let n = to_z w64 c.loop-number.number-bits in
    let from = to_z w64 (of_z w64 c.args.from) in
    let to = to_z w64 (of_z w64 c.args.to) in
    let below : n <ℤ to = grind (arith, ints, c.loop-number-test.true) in
    let fits_from : FitsSigned w64 c.args.from = search rules in
    let fits_to : FitsSigned w64 c.args.to = search rules in
    let same : turns from to * code_count c.args.body.now ≡ turns c.args.from c.args.to * code_count c.args.body.now = λ i. turns (to_z-of_z w64 c.args.from fits_from i) (to_z-of_z w64 c.args.to fits_to i) * code_count c.args.body.now in
    subst (λ (h : Halt). IsHaltWithin (turns c.args.from c.args.to * code_count c.args.body.now) h) (sym c.after.ensures)
    (moved-within (code_count c.args.body.now) (turns c.args.from c.args.to * code_count c.args.body.now) c.count_before.result c.in-Err.halt
    (omega (arith, turn-within c.args.var c.args.body.now from n to c.loop-number.invariant.up below, same, c.count_before.ensures)) c.in-Err.ensures.within)

pub exec_turns-loop-number-preserved : goal.exec_turns-loop-number-preserved
exec_turns-loop-number-preserved g t c =
    let held = g.R.Rows.held c.args.rows.now in
    let n = to_z w64 c.loop-number.number-bits in
    let from = to_z w64 (of_z w64 c.args.from) in
    let to = to_z w64 (of_z w64 c.args.to) in
    let below : n <ℤ to = grind (arith, ints, c.loop-number-test.true) in
    let fits : FitsSigned w64 (n +ℤ pos 1) = search rules in
    let more : to_z w64 (of_z w64 (n +ℤ pos 1)) ≡ n +ℤ pos 1 = to_z-of_z w64 (n +ℤ pos 1) fits in
    let body = c.args.body.now in
    let begun : State = record { env = c.define.new.env; tables = as_changed held c.loop-number.txn.write_set } in
    let begins : begun ≡ define c.args.var (Int n) (state_of held c.loop-number.txn) = λ i. record { env = c.in_ok-define.ensures.ok i; tables = as_changed held c.loop-number.txn.write_set } in
    record {
      up = subst (λ z. from ≤ℤ z) (sym more) (up-one from n c.loop-number.invariant.up);
      over = c.in-Ok.ensures.over;
      keeps = turn-keeps c.args.var (any_defines (map (check c.args.tables.now) body)) c.args.txn.now.env c.loop-number.txn.env c.define.new.env c.exec_block.new.txn.env c.loop-number.invariant.keeps c.in_ok-define.ensures.types c.in-Ok.ensures.keeps;
      so_far = λ m. ap (λ z. run_turns c.args.var (map code body) (turn_numbers z to) (m + natural (z -ℤ from) * code_count body) (state_of held c.exec_block.new.txn)) more
          ∙ turn-runs c.args.var body from n to c.loop-number.invariant.up below m (state_of held c.loop-number.txn) begun (state_of held c.exec_block.new.txn) begins (c.in-Ok.ensures.runs (m + natural (n -ℤ from) * code_count body))
          ∙ c.loop-number.invariant.so_far m;
      written = λ m q. ap (λ z. is_among q (turn_cells c.args.var (map code body) (turn_numbers z to) (m + natural (z -ℤ from) * code_count body) (state_of held c.exec_block.new.txn)) || contains_key c.exec_block.new.txn.write_set q) more
          ∙ turn-writes c.args.var body from n to c.loop-number.invariant.up below m (state_of held c.loop-number.txn) begun (state_of held c.exec_block.new.txn) c.loop-number.txn.write_set c.exec_block.new.txn.write_set begins
          (c.in-Ok.ensures.runs (m + natural (n -ℤ from) * code_count body)) (c.in-Ok.ensures.writes (m + natural (n -ℤ from) * code_count body)) q
          ∙ c.loop-number.invariant.written m q;
    }
