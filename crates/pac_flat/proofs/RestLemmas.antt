-- The operations of statements stand before those of what comes after them: one statement more, and one turn more.
use Rattle.std.proofs.Common.{◌≡◌, ℕ, suc, ◌+◌, ◌*◌, ℤ, pos, ◌+ℤ◌, ◌<ℤ◌, true, false, List, [], ◌∷◌, ◌++◌, map, refl, sym, ap, subst, ◌∙◌, append_assoc, append-nil, arith, Result, Ok, Err, OnOk}
use Rattle.std.specs.List.{AllByRecursion}
use Rattle.pac_value.specs.declared.expr.Expr.{Expr}
use Rattle.pac_ops.specs.declared.program.FlatOp.{FlatOp}
use Rattle.pac_ops.specs.declared.program.OpKind.{OpKind}
use Rattle.pac_ops.specs.declared.program.OpKind.TheVariants.{Cond}
use Rattle.pac_types.specs.declared.statement.Stmt.{Stmt, If}
use Rattle.pac_types.proofs.StmtForms.{at-If}
use Rattle.pac_types.proofs.TurnLemmas.{turns-more, numbers-more}
use Rattle.pac_types.specs.Unrolled.{UnrolledSteps, End, turns, turn_numbers, Point, renamed, with_next, with_turn, Unrolling, all_after, in_steps, after_turns, in_turns, unroll_step, unrolling}
use Rattle.pac_types.proofs.StmtShapes.{is_test, IsOne, IsConditional, IsLoop, by_shape, all_by_shape}
use Rattle.pac_types.proofs.UnrolledLemmas.{unrolling-one}
use Rattle.pac_flat.specs.FlatForm.{Conditions, flat, inside, under}

abbrev Leads : Unrolling → Type 0
Leads u = (p : Point) (rest : UnrolledSteps) (conds : Conditions) → flat (u.steps p rest) conds ≡ flat (u.steps p End) conds ++ flat rest conds

abbrev LeadsStmt : Stmt → Type 0
LeadsStmt s = Leads (unrolling s)

leads_all : (ss : List Stmt) → AllByRecursion LeadsStmt ss → (p : Point) (rest : UnrolledSteps) (conds : Conditions) → flat (in_steps (map unrolling ss) p rest) conds ≡ flat (in_steps (map unrolling ss) p End) conds ++ flat rest conds
leads_all [] all p rest conds = refl
leads_all (s ∷ ss) all p rest conds =
    let u = unrolling s in
    let q = u.after p in
    all.0 p (in_steps (map unrolling ss) q rest) conds ∙ ap (λ l. flat (u.steps p End) conds ++ l) (leads_all ss all.1 q rest conds)
    ∙ sym (append_assoc (flat (u.steps p End) conds) (flat (in_steps (map unrolling ss) q End) conds) (flat rest conds))
    ∙ ap (λ l. l ++ flat rest conds) (sym (all.0 p (in_steps (map unrolling ss) q End) conds))

leads_turns : (x : ℕ) (ss : List Stmt) → AllByRecursion LeadsStmt ss → (is : List ℤ) (p : Point) (rest : UnrolledSteps) (conds : Conditions) → flat (in_turns x (map unrolling ss) is p rest) conds ≡ flat (in_turns x (map unrolling ss) is p End) conds ++ flat rest conds
leads_turns x ss all [] p rest conds = refl
leads_turns x ss all (i ∷ is) p rest conds =
    let turn = with_turn x i p in
    let q = all_after (map unrolling ss) turn in
    let more = in_turns x (map unrolling ss) is q in
    let own = flat (in_steps (map unrolling ss) turn End) conds in
    leads_all ss all turn (more rest) conds ∙ ap (λ l. own ++ l) (leads_turns x ss all is q rest conds)
    ∙ sym (append_assoc own (flat (more End) conds) (flat rest conds))
    ∙ ap (λ l. l ++ flat rest conds) (sym (leads_all ss all turn (more End) conds))

leads-one : (s : Stmt) (kind : OpKind) → is_test kind ≡ false → IsOne s kind → LeadsStmt s
leads-one s kind single is = subst Leads (sym (unrolling-one s kind single is)) (λ p rest conds. refl)

leads-conditional : (s : Stmt) (x : ℕ) (e : Expr) (first second : List Stmt) → IsConditional s x e first second → AllByRecursion LeadsStmt first → AllByRecursion LeadsStmt second → LeadsStmt s
leads-conditional s x e first second is all others = subst Leads (sym (is Unrolling unroll_step)) (λ p rest conds.
    let inner = with_next x p in
    let one = flat (in_steps (map unrolling first) inner End) (inside conds p.next true) in
    let two = flat (in_steps (map unrolling second) (all_after (map unrolling first) inner) End) (inside conds p.next false) in
    ap (λ l. l ++ flat rest conds) (sym (append-nil (under conds (Cond p.next (renamed p.names e)) ∷ one ++ two))))

leads-loop : (s : Stmt) (x : ℕ) (from to : ℤ) (body : List Stmt) → IsLoop s x from to body → AllByRecursion LeadsStmt body → LeadsStmt s
leads-loop s x from to body is all = subst Leads (sym (is Unrolling unroll_step)) (leads_turns x body all (turn_numbers from to))

-- the operations of a statement, and those after it
pub flat-rest : (s : Stmt) (p : Point) (rest : UnrolledSteps) (conds : Conditions) → flat ((unrolling s).steps p rest) conds ≡ flat ((unrolling s).steps p End) conds ++ flat rest conds
flat-rest = by_shape LeadsStmt leads-one leads-conditional leads-loop

-- the operations of a block, and those after it
pub flat_all-rest : (ss : List Stmt) (p : Point) (rest : UnrolledSteps) (conds : Conditions) → flat (in_steps (map unrolling ss) p rest) conds ≡ flat (in_steps (map unrolling ss) p End) conds ++ flat rest conds
flat_all-rest ss = leads_all ss (all_by_shape LeadsStmt leads-one leads-conditional leads-loop ss)

module _ (s : Stmt) (ss : List Stmt) (conds : Conditions) (p q : Point) (ops more : List FlatOp) (after : q ≡ (unrolling s).after p) (pushed : more ≡ ops ++ flat ((unrolling s).steps p End) conds) where
  pub stmt-point : all_after (map unrolling ss) q ≡ all_after (map unrolling (s ∷ ss)) p
  stmt-point = ap (all_after (map unrolling ss)) after

  pub stmt-ops : more ++ flat (in_steps (map unrolling ss) q End) conds ≡ ops ++ flat (in_steps (map unrolling (s ∷ ss)) p End) conds
  stmt-ops =
      let next = (unrolling s).after p in
      let rest = in_steps (map unrolling ss) next End in
      (λ i. pushed i ++ flat (in_steps (map unrolling ss) (after i) End) conds)
      ∙ append_assoc ops (flat ((unrolling s).steps p End) conds) (flat rest conds) ∙ ap (λ l. ops ++ l) (sym (flat-rest s p rest conds))

module _ (x : ℕ) (body : List Stmt) (conds : Conditions) (n to : ℤ) (below : n <ℤ to) (p q : Point) (ops more : List FlatOp) (after : q ≡ all_after (map unrolling body) (with_turn x n p)) (pushed : more ≡ ops ++ flat (in_steps (map unrolling body) (with_turn x n p) End) conds) where
  pub turn-point : after_turns x (map unrolling body) (turn_numbers (n +ℤ pos 1) to) q ≡ after_turns x (map unrolling body) (turn_numbers n to) p
  turn-point = ap (after_turns x (map unrolling body) (turn_numbers (n +ℤ pos 1) to)) after ∙ ap (λ is. after_turns x (map unrolling body) is p) (sym (numbers-more n to below))

  pub turn-ops : more ++ flat (in_turns x (map unrolling body) (turn_numbers (n +ℤ pos 1) to) q End) conds ≡ ops ++ flat (in_turns x (map unrolling body) (turn_numbers n to) p End) conds
  turn-ops =
      let turn = with_turn x n p in
      let own = flat (in_steps (map unrolling body) turn End) conds in
      let rest = in_turns x (map unrolling body) (turn_numbers (n +ℤ pos 1) to) (all_after (map unrolling body) turn) End in
      (λ i. pushed i ++ flat (in_turns x (map unrolling body) (turn_numbers (n +ℤ pos 1) to) (after i) End) conds)
      ∙ append_assoc ops own (flat rest conds) ∙ ap (λ l. ops ++ l) (sym (flat_all-rest body turn rest conds))
      ∙ ap (λ is. ops ++ flat (in_turns x (map unrolling body) is p End) conds) (sym (numbers-more n to below))

-- a turn is one of the turns
pub turn-fits : (n to : ℤ) (k : ℕ) → n <ℤ to → turns n to * k ≡ k + turns (n +ℤ pos 1) to * k
turn-fits n to k below = ap (λ m. m * k) (turns-more n to below) ∙ times (turns (n +ℤ pos 1) to) k
  where
    times : (m k : ℕ) → suc m * k ≡ k + m * k
    times m k = omega arith

-- a conditional: its test, and then its blocks
module _ (s : Stmt) (x : ℕ) (e : Expr) (first second : List Stmt) (is : s ≡ If x e first second) (p : Point) where
  pub conditional-ops : (conds in_first in_second : Conditions) (kind : OpKind) (a b : Point) (ops tested more most : List FlatOp)
      → kind ≡ Cond p.next (renamed p.names e) → tested ≡ ops ++ under conds kind ∷ [] → a ≡ with_next x p → in_first ≡ inside conds p.next true
      → more ≡ tested ++ flat (in_steps (map unrolling first) a End) in_first → b ≡ all_after (map unrolling first) a → in_second ≡ inside conds p.next false
      → most ≡ more ++ flat (in_steps (map unrolling second) b End) in_second → most ≡ ops ++ flat ((unrolling s).steps p End) conds
  conditional-ops conds in_first in_second kind a b ops tested more most test pushed at_a cond_a first_ops at_b cond_b second_ops =
      let inner = with_next x p in
      let between = all_after (map unrolling first) inner in
      let op = under conds (Cond p.next (renamed p.names e)) in
      let one = flat (in_steps (map unrolling first) inner End) (inside conds p.next true) in
      let two = flat (in_steps (map unrolling second) between End) (inside conds p.next false) in
      let tested_is : tested ≡ ops ++ op ∷ [] = pushed ∙ ap (λ k. ops ++ under conds k ∷ []) test in
      let more_is : more ≡ (ops ++ op ∷ []) ++ one = first_ops ∙ (λ i. tested_is i ++ flat (in_steps (map unrolling first) (at_a i) End) (cond_a i)) in
      let point_is : b ≡ between = at_b ∙ ap (all_after (map unrolling first)) at_a in
      second_ops ∙ (λ i. more_is i ++ flat (in_steps (map unrolling second) (point_is i) End) (cond_b i))
      ∙ ap (λ l. l ++ two) (append_assoc ops (op ∷ []) one) ∙ append_assoc ops (op ∷ one) two ∙ ap (λ l. ops ++ l) (sym (append-nil (op ∷ (one ++ two))))
      ∙ ap (λ (u : Unrolling). ops ++ flat (u.steps p End) conds) (sym (at-If Unrolling unroll_step s x e first second is))

-- what holds where a result is there
pub on-ok : {A E : Type 0} (r : Result A E) (P Q : Type 0) → (P → Q) → OnOk r P → OnOk r Q
on-ok (Ok x) P Q f h = f h
on-ok (Err e) P Q f h = tt
