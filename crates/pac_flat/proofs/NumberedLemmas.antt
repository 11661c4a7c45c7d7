-- The variables of unrolled statements run on.
use Rattle.std.proofs.Common.{◌≡◌, ℕ, ◌+◌, ℤ, false, List, [], ◌∷◌, length, map, refl, sym, subst, arith}
use Rattle.std.specs.List.{AllByRecursion}
use Rattle.pac_value.specs.declared.expr.Expr.{Expr}
use Rattle.pac_ops.specs.declared.program.OpKind.{OpKind}
use Rattle.pac_ops.specs.declared.program.OpKind.TheVariants as kind
use Rattle.pac_ops.specs.Uses.{defined_variable}
use Rattle.pac_types.specs.declared.procedure.Proc.{Proc}
use Rattle.pac_types.specs.declared.statement.Stmt.{Stmt}
use Rattle.pac_types.specs.Unrolled.{UnrolledSteps, End, turn_numbers, Point, with_next, with_turn, with_defined, renamed_kind, Unrolling, all_after, in_steps, after_turns, in_turns, unroll_step, unrolling, beginning, unrolled}
use Rattle.pac_types.proofs.StmtShapes.{is_test, IsOne, IsConditional, IsLoop, all_by_shape}
use Rattle.pac_types.proofs.UnrolledLemmas.{unrolling-one}
use Rattle.pac_types.proofs.RunsOnLemmas.{RunsOn, variable_list}
use Rattle.pac_flat.proofs.FormLemmas.{RunsTo}

-- the variables of a statement's steps run on to those after it
abbrev Numbers : Unrolling → Type 0
Numbers u = (p : Point) (rest : UnrolledSteps) (k : ℕ) → RunsTo (u.after p).next rest k → RunsTo p.next (u.steps p rest) k

abbrev NumbersStmt : Stmt → Type 0
NumbersStmt s = Numbers (unrolling s)

numbers_all : (ss : List Stmt) → AllByRecursion NumbersStmt ss → (p : Point) (rest : UnrolledSteps) (k : ℕ) → RunsTo (all_after (map unrolling ss) p).next rest k → RunsTo p.next (in_steps (map unrolling ss) p rest) k
numbers_all [] all p rest k run = run
numbers_all (s ∷ ss) all p rest k run = all.0 p (in_steps (map unrolling ss) ((unrolling s).after p) rest) k (numbers_all ss all.1 ((unrolling s).after p) rest k run)

numbers_turns : (x : ℕ) (ss : List Stmt) → AllByRecursion NumbersStmt ss → (is : List ℤ) (p : Point) (rest : UnrolledSteps) (k : ℕ) → RunsTo (after_turns x (map unrolling ss) is p).next rest k → RunsTo p.next (in_turns x (map unrolling ss) is p rest) k
numbers_turns x ss all [] p rest k run = run
numbers_turns x ss all (i ∷ is) p rest k run =
    let next = all_after (map unrolling ss) (with_turn x i p) in
    numbers_all ss all (with_turn x i p) (in_turns x (map unrolling ss) is next rest) k (numbers_turns x ss all is next rest k run)

-- an operation's variable is the next
numbers_kind : (kind : OpKind) (p : Point) → RunsOn p.next (variable_list (defined_variable (renamed_kind p kind))) × (p.next + length (variable_list (defined_variable (renamed_kind p kind))) ≡ (with_defined (defined_variable kind) p).next)
numbers_kind (kind.Let x e) p = ((refl, tt), refl)
numbers_kind (kind.Cond x e) p = ((refl, tt), refl)
numbers_kind (kind.Read x t k c d) p = ((refl, tt), refl)
numbers_kind (kind.Has x t k) p = ((refl, tt), refl)
numbers_kind (kind.Put t k es) p = (tt, omega arith)
numbers_kind (kind.SetCol t k c e) p = (tt, omega arith)
numbers_kind (kind.Delete t k) p = (tt, omega arith)
numbers_kind (kind.AbortIf e) p = (tt, omega arith)

numbers-one : (s : Stmt) (kind : OpKind) → is_test kind ≡ false → IsOne s kind → NumbersStmt s
numbers-one s kind single is = subst Numbers (sym (unrolling-one s kind single is)) (λ p rest k run. let n = numbers_kind kind p in (n.0, subst (λ m. RunsTo m rest k) (sym n.1) run))

numbers-conditional : (s : Stmt) (x : ℕ) (e : Expr) (first second : List Stmt) → IsConditional s x e first second → AllByRecursion NumbersStmt first → AllByRecursion NumbersStmt second → NumbersStmt s
numbers-conditional s x e first second is all others = subst Numbers (sym (is Unrolling unroll_step)) (λ p rest k run.
    let inner = with_next x p in
    let between = all_after (map unrolling first) inner in
    (refl, between.next, (all_after (map unrolling second) between).next, numbers_all first all inner End between.next refl, numbers_all second others between End (all_after (map unrolling second) between).next refl, run))

numbers-loop : (s : Stmt) (x : ℕ) (from to : ℤ) (body : List Stmt) → IsLoop s x from to body → AllByRecursion NumbersStmt body → NumbersStmt s
numbers-loop s x from to body is all = subst Numbers (sym (is Unrolling unroll_step)) (λ p rest k run. numbers_turns x body all (turn_numbers from to) p rest k run)

-- the variables of a procedure's steps run on from the first after the parameters
pub numbered-unrolled : (proc : Proc) → RunsTo (length proc.params) (unrolled proc) (all_after (map unrolling proc.body) (beginning proc)).next
numbered-unrolled proc = numbers_all proc.body (all_by_shape NumbersStmt numbers-one numbers-conditional numbers-loop proc.body) (beginning proc) End (all_after (map unrolling proc.body) (beginning proc)).next refl
