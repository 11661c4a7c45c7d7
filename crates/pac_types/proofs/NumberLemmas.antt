-- The variables of a procedure's statements have one number after another, from that of its first statement on.
use Rattle.std.proofs.Common.{◌≡◌, ◌+◌, ℕ, zero, suc, List, [], ◌∷◌, ◌++◌, length, map, Some, refl, sym, ap, subst, ◌∙◌, arith}
use Rattle.std.specs.List.{AllByRecursion, range_with_len}
use Rattle.std.specs.Option.{option_map, option_and_then}
use Rattle.std.proofs.lemmas.List.FromFn.{length-range_with_len}
use Rattle.pac_syntax.specs.declared.tree.StmtNode.{StmtNode}
use Rattle.pac_syntax.specs.declared.tree.StmtNode.TheOpen as form
use Rattle.pac_syntax.specs.declared.tree.StmtNode.TheOpen.{StmtNode-F}
use Rattle.pac_syntax.specs.declared.tree.StmtNode.TheViews.{roll-StmtNode}
use Rattle.pac_syntax.specs.declared.tree.StmtNode.TheFolds.{fold-roll-StmtNode, ind-StmtNode, map-StmtNode}
use Rattle.pac_types.specs.declared.table.Table.{Table}
use Rattle.pac_types.specs.declared.statement.Stmt.{Stmt, Let, Read, Has, Put, Set, Delete, AbortIf, If, For}
use Rattle.pac_types.specs.Variables.{variables_step, stmt_variables, defined_variables}
use Rattle.pac_types.specs.Numbering.{Numbered, Sight, numbered, number_step, in_turn, body_of, variables_in, all_names, resolved, resolved_all, table_number, column_number, unseen}
use Rattle.pac_types.proofs.StmtForms.{at-Let, at-Read, at-Has, at-Put, at-Set, at-Delete, at-AbortIf, at-If, at-For}
use Rattle.pac_types.proofs.PartLemmas.{map_is, then_is, cell_is}
use Rattle.pac_types.proofs.BlockLemmas.{turn_is, if_is}
use Rattle.pac_types.proofs.ExprLemmas.{some_is}

-- two runs of numbers, one after the other
run-append : (a n m : ℕ) → range_with_len a n ++ range_with_len (a + n) m ≡ range_with_len a (n + m)
run-append a zero m = ap (λ k. range_with_len k m) (omega arith) ∙ ap (range_with_len a) (omega arith)
run-append a (suc n) m =
    let same : a + suc n ≡ (a + 1) + n = omega arith in
    let count : suc (n + m) ≡ suc n + m = omega arith in
    ap (λ k. a ∷ range_with_len (a + 1) n ++ range_with_len k m) same ∙ ap (λ l. a ∷ l) (run-append (a + 1) n m) ∙ ap (range_with_len a) count

-- where a statement is by numbers, its variables have the numbers from the next one on, as many as it counts
abbrev TakesNumbers : Numbered → Type 0
TakesNumbers n = (sight : Sight) (next : ℕ) (s : Stmt) → n.stmt sight next ≡ Some s → stmt_variables s ≡ range_with_len next n.count

-- the variables of a statement that is equal to one of a form
known_by : (s t : Stmt) (xs : List ℕ) → t ≡ s → stmt_variables t ≡ xs → stmt_variables s ≡ xs
known_by s t xs same is = ap stmt_variables (sym same) ∙ is

module _ (tables : List Table) (names : List (List ℕ)) where
  abbrev TakesNumbers-node : Type 0
  TakesNumbers-node = (node : StmtNode) × TakesNumbers (numbered tables names node)

  abbrev numbering_of : List TakesNumbers-node → List Numbered
  numbering_of qs = map (numbered tables names) (map (λ q. q.0) qs)

  each : (qs : List TakesNumbers-node) → AllByRecursion TakesNumbers (numbering_of qs)
  each [] = tt
  each (q ∷ qs) = (q.1, each qs)

  -- statements one after another
  run_numbers : (ns : List Numbered) → AllByRecursion TakesNumbers ns → (sight : Sight) (next : ℕ) (ss : List Stmt) → in_turn ns sight next ≡ Some ss → defined_variables ss ≡ range_with_len next (variables_in ns)
  run_numbers [] all sight next ss h = ap defined_variables (sym (some_is h))
  run_numbers (n ∷ ns) all sight next ss h =
      let p = turn_is tables names n ns sight next ss h in
      ap defined_variables (sym p.4) ∙ ap (λ xs. xs ++ defined_variables p.1) (all.0 sight next p.0 p.2)
      ∙ ap (λ xs. range_with_len next n.count ++ xs) (run_numbers ns all.1 (sight ++ n.shown next) (next + n.count) p.1 p.3) ∙ run-append next n.count (variables_in ns)

  step_numbers : (y : StmtNode-F TakesNumbers-node) → TakesNumbers (number_step tables names (map-StmtNode StmtNode Numbered (numbered tables names) (map-StmtNode TakesNumbers-node StmtNode (λ q. q.0) y)))
  step_numbers (form.Let name value) sight next s h =
      let p = map_is (λ e. Let next e) (resolved names sight value) s h in
      known_by s (Let next p.0) (next ∷ []) p.2 (at-Let (List ℕ) variables_step (Let next p.0) next p.0 refl)
  step_numbers (form.Read name table key column default) sight next s h =
      let p = cell_is (table_number tables table.name) (resolved names sight key) (λ t k. option_map (λ c. Read next t k c default.value) (column_number tables t column.name)) s h in
      let q = map_is (λ c. Read next p.0 p.1 c default.value) (column_number tables p.0 column.name) s p.4 in
      known_by s (Read next p.0 p.1 q.0 default.value) (next ∷ []) q.2 (at-Read (List ℕ) variables_step (Read next p.0 p.1 q.0 default.value) next p.0 p.1 q.0 default.value refl)
  step_numbers (form.Has name table key) sight next s h =
      let p = cell_is (table_number tables table.name) (resolved names sight key) (λ t k. Some (Has next t k)) s h in
      known_by s (Has next p.0 p.1) (next ∷ []) (some_is p.4) (at-Has (List ℕ) variables_step (Has next p.0 p.1) next p.0 p.1 refl)
  step_numbers (form.Put table key values) sight next s h =
      let p = cell_is (table_number tables table.name) (resolved names sight key) (λ t k. option_map (λ es. Put t k es) (resolved_all names sight values)) s h in
      let q = map_is (λ es. Put p.0 p.1 es) (resolved_all names sight values) s p.4 in
      known_by s (Put p.0 p.1 q.0) [] q.2 (at-Put (List ℕ) variables_step (Put p.0 p.1 q.0) p.0 p.1 q.0 refl)
  step_numbers (form.Set table key column value) sight next s h =
      let p = cell_is (table_number tables table.name) (resolved names sight key) (λ t k. option_and_then (λ c. option_map (λ e. Set t k c e) (resolved names sight value)) (column_number tables t column.name)) s h in
      let q = then_is (λ c. option_map (λ e. Set p.0 p.1 c e) (resolved names sight value)) (column_number tables p.0 column.name) s p.4 in
      let r = map_is (λ e. Set p.0 p.1 q.0 e) (resolved names sight value) s q.2 in
      known_by s (Set p.0 p.1 q.0 r.0) [] r.2 (at-Set (List ℕ) variables_step (Set p.0 p.1 q.0 r.0) p.0 p.1 q.0 r.0 refl)
  step_numbers (form.Delete table key) sight next s h =
      let p = cell_is (table_number tables table.name) (resolved names sight key) (λ t k. Some (Delete t k)) s h in
      known_by s (Delete p.0 p.1) [] (some_is p.4) (at-Delete (List ℕ) variables_step (Delete p.0 p.1) p.0 p.1 refl)
  step_numbers (form.AbortIf test) sight next s h =
      let p = map_is (λ e. AbortIf e) (resolved names sight test) s h in
      known_by s (AbortIf p.0) [] p.2 (at-AbortIf (List ℕ) variables_step (AbortIf p.0) p.0 refl)
  step_numbers (form.If test first second) sight next s h =
      let ns = numbering_of first in
      let ms = numbering_of second in
      let p = if_is tables names (resolved names sight test) (in_turn ns sight (next + 1)) (in_turn ms (sight ++ unseen (all_names ns)) (next + 1 + variables_in ns)) next s h in
      let one : suc (variables_in ns + variables_in ms) ≡ 1 + (variables_in ns + variables_in ms) = omega arith in
      known_by s (If next p.0 p.1 p.2) (next ∷ defined_variables p.1 ++ defined_variables p.2) p.6 (at-If (List ℕ) variables_step (If next p.0 p.1 p.2) next p.0 p.1 p.2 refl)
      ∙ ap (λ xs. next ∷ xs ++ defined_variables p.2) (run_numbers ns (each first) sight (next + 1) p.1 p.4)
      ∙ ap (λ xs. next ∷ range_with_len (next + 1) (variables_in ns) ++ xs) (run_numbers ms (each second) (sight ++ unseen (all_names ns)) (next + 1 + variables_in ns) p.2 p.5)
      ∙ ap (λ xs. next ∷ xs) (run-append (next + 1) (variables_in ns) (variables_in ms)) ∙ ap (range_with_len next) one
  step_numbers (form.For name from to body) sight next s h =
      let ns = numbering_of body in
      let p = map_is (λ b. For next from to b) (in_turn ns (sight ++ Some next ∷ []) (next + 1)) s h in
      let one : suc (variables_in ns) ≡ 1 + variables_in ns = omega arith in
      known_by s (For next from to p.0) (next ∷ defined_variables p.0) p.2 (at-For (List ℕ) variables_step (For next from to p.0) next from to p.0 refl)
      ∙ ap (λ xs. next ∷ xs) (run_numbers ns (each body) (sight ++ Some next ∷ []) (next + 1) p.0 p.1) ∙ ap (range_with_len next) one

  takes_numbers : (node : StmtNode) → TakesNumbers (numbered tables names node)
  takes_numbers = ind-StmtNode (λ node. TakesNumbers (numbered tables names node)) (λ x y is. subst (λ z. TakesNumbers (numbered tables names (roll-StmtNode z))) is
      (subst TakesNumbers (sym (fold-roll-StmtNode Numbered (number_step tables names) (map-StmtNode TakesNumbers-node StmtNode (λ q. q.0) y))) (step_numbers y)))

  takes_all : (nodes : List StmtNode) → AllByRecursion TakesNumbers (map (numbered tables names) nodes)
  takes_all [] = tt
  takes_all (n ∷ ns) = (takes_numbers n, takes_all ns)

  -- the statements of a body define the variables from the next number on, as many as there are
  pub body_numbers : (nodes : List StmtNode) (sight : Sight) (next : ℕ) (ss : List Stmt) → body_of tables names nodes sight next ≡ Some ss → defined_variables ss ≡ range_with_len next (length (defined_variables ss))
  body_numbers nodes sight next ss h =
      let count = variables_in (map (numbered tables names) nodes) in
      let is : defined_variables ss ≡ range_with_len next count = run_numbers (map (numbered tables names) nodes) (takes_all nodes) sight next ss h in
      is ∙ ap (range_with_len next) (sym (ap length is ∙ length-range_with_len next count))
