-- How many operations and variables unrolled statements have.
use Rattle.std.proofs.Common.{◌≡◌, ◌≤◌, ℕ, zero, suc, ◌+◌, ◌*◌, ℤ, false, List, [], ◌∷◌, length, map, Option, Some, None, refl, sym, ap, subst, ◌∙◌, arith}
use Rattle.std.specs.List.{AllByRecursion}
use Rattle.pac_value.specs.declared.expr.Expr.{Expr}
use Rattle.pac_ops.specs.declared.program.OpKind.{OpKind}
use Rattle.pac_ops.specs.declared.program.OpKind.TheVariants as kind
use Rattle.pac_ops.specs.Uses.{defined_variable}
use Rattle.pac_types.specs.declared.procedure.Proc.{Proc}
use Rattle.pac_types.specs.declared.statement.Stmt.{Stmt}
use Rattle.pac_types.specs.Meaning.{count_step, stmt_operations, operations, step_count}
use Rattle.pac_types.specs.Unrolled.{UnrolledSteps, End, turns, ascending, turn_numbers, Point, with_next, with_turn, with_defined, Unrolling, all_after, in_steps, after_turns, in_turns, unroll_one, unroll_step, unrolling, beginning, unrolled}
use Rattle.pac_types.proofs.StmtShapes.{form_of, is_test, IsOne, IsConditional, IsLoop, by_shape, all_by_shape}

-- ---- what unrolling gives for each form

unrolls_one : (kind : OpKind) → is_test kind ≡ false → unroll_step (form_of Unrolling kind) ≡ unroll_one kind
unrolls_one (kind.Let x e) single = refl
unrolls_one (kind.Cond x e) single = absurd cc
unrolls_one (kind.Read x t k c d) single = refl
unrolls_one (kind.Has x t k) single = refl
unrolls_one (kind.Put t k es) single = refl
unrolls_one (kind.SetCol t k c e) single = refl
unrolls_one (kind.Delete t k) single = refl
unrolls_one (kind.AbortIf e) single = refl

pub unrolling-one : (s : Stmt) (kind : OpKind) → is_test kind ≡ false → IsOne s kind → unrolling s ≡ unroll_one kind
unrolling-one s kind single is = is Unrolling unroll_step ∙ unrolls_one kind single

counts_one : (kind : OpKind) → count_step (form_of ℕ kind) ≡ 1
counts_one (kind.Let x e) = refl
counts_one (kind.Cond x e) = refl
counts_one (kind.Read x t k c d) = refl
counts_one (kind.Has x t k) = refl
counts_one (kind.Put t k es) = refl
counts_one (kind.SetCol t k c e) = refl
counts_one (kind.Delete t k) = refl
counts_one (kind.AbortIf e) = refl

pub operations-one : (s : Stmt) (kind : OpKind) → IsOne s kind → stmt_operations s ≡ 1
operations-one s kind is = is ℕ count_step ∙ counts_one kind

pub length-ascending : (k : ℕ) (i : ℤ) → length (ascending i k) ≡ k
length-ascending zero i = refl
length-ascending (suc k) i = ap suc (length-ascending k _)

-- ---- operations

-- a statement's steps are as many operations as it counts, and those after it
abbrev Counted : Unrolling → ℕ → Type 0
Counted u k = (p : Point) (rest : UnrolledSteps) → step_count (u.steps p rest) ≡ k + step_count rest

abbrev CountedStmt : Stmt → Type 0
CountedStmt s = Counted (unrolling s) (stmt_operations s)

counted_all : (ss : List Stmt) → AllByRecursion CountedStmt ss → (p : Point) (rest : UnrolledSteps) → step_count (in_steps (map unrolling ss) p rest) ≡ operations ss + step_count rest
counted_all [] all p rest = omega arith
counted_all (s ∷ ss) all p rest = omega (arith, all.0 p (in_steps (map unrolling ss) ((unrolling s).after p) rest), counted_all ss all.1 ((unrolling s).after p) rest)

counted_turns : (x : ℕ) (ss : List Stmt) → AllByRecursion CountedStmt ss → (is : List ℤ) (p : Point) (rest : UnrolledSteps) → step_count (in_turns x (map unrolling ss) is p rest) ≡ length is * operations ss + step_count rest
counted_turns x ss all [] p rest = omega arith
counted_turns x ss all (i ∷ is) p rest =
    let next = all_after (map unrolling ss) (with_turn x i p) in
    let more : suc (length is) * operations ss ≡ operations ss + length is * operations ss = omega arith in
    omega (arith, more, counted_all ss all (with_turn x i p) (in_turns x (map unrolling ss) is next rest), counted_turns x ss all is next rest)

counted-one : (s : Stmt) (kind : OpKind) → is_test kind ≡ false → IsOne s kind → CountedStmt s
counted-one s kind single is = subst (λ (q : Unrolling × ℕ). Counted q.0 q.1) (λ i. (sym (unrolling-one s kind single is) i, sym (operations-one s kind is) i)) (λ p rest. refl)

counted-conditional : (s : Stmt) (x : ℕ) (e : Expr) (first second : List Stmt) → IsConditional s x e first second → AllByRecursion CountedStmt first → AllByRecursion CountedStmt second → CountedStmt s
counted-conditional s x e first second is all others = subst (λ (q : Unrolling × ℕ). Counted q.0 q.1) (λ i. (sym (is Unrolling unroll_step) i, sym (is ℕ count_step) i))
    (λ p rest. omega (arith, counted_all first all (with_next x p) End, counted_all second others (all_after (map unrolling first) (with_next x p)) End))

counted-loop : (s : Stmt) (x : ℕ) (from to : ℤ) (body : List Stmt) → IsLoop s x from to body → AllByRecursion CountedStmt body → CountedStmt s
counted-loop s x from to body is all = subst (λ (q : Unrolling × ℕ). Counted q.0 q.1) (λ i. (sym (is Unrolling unroll_step) i, sym (is ℕ count_step) i))
    (λ p rest. counted_turns x body all (turn_numbers from to) p rest ∙ ap (λ n. n * operations body + step_count rest) (length-ascending (turns from to) from))

pub all_steps-count : (ss : List Stmt) (p : Point) (rest : UnrolledSteps) → step_count (in_steps (map unrolling ss) p rest) ≡ operations ss + step_count rest
all_steps-count ss = counted_all ss (all_by_shape CountedStmt counted-one counted-conditional counted-loop ss)

-- a procedure's steps are as many as its operations
pub unrolled-count : (proc : Proc) → step_count (unrolled proc) ≡ operations proc.body
unrolled-count proc = omega (arith, all_steps-count proc.body (beginning proc) End)

-- ---- variables

-- a statement defines no more variables than it has operations
abbrev Grows : Unrolling → ℕ → Type 0
Grows u k = (p : Point) → (p.next ≤ (u.after p).next) × ((u.after p).next ≤ p.next + k)

abbrev GrowsStmt : Stmt → Type 0
GrowsStmt s = Grows (unrolling s) (stmt_operations s)

grows_all : (ss : List Stmt) → AllByRecursion GrowsStmt ss → (p : Point) → (p.next ≤ (all_after (map unrolling ss) p).next) × ((all_after (map unrolling ss) p).next ≤ p.next + operations ss)
grows_all [] all p = (omega arith, omega arith)
grows_all (s ∷ ss) all p =
    let one = all.0 p in
    let more = grows_all ss all.1 ((unrolling s).after p) in
    (omega (arith, one.0, more.0), omega (arith, one.1, more.1))

grows_turns : (x : ℕ) (ss : List Stmt) → AllByRecursion GrowsStmt ss → (is : List ℤ) (p : Point) → (p.next ≤ (after_turns x (map unrolling ss) is p).next) × ((after_turns x (map unrolling ss) is p).next ≤ p.next + length is * operations ss)
grows_turns x ss all [] p = (omega arith, omega arith)
grows_turns x ss all (i ∷ is) p =
    let one = grows_all ss all (with_turn x i p) in
    let more = grows_turns x ss all is (all_after (map unrolling ss) (with_turn x i p)) in
    let sum : suc (length is) * operations ss ≡ operations ss + length is * operations ss = omega arith in
    (omega (arith, one.0, more.0), omega (arith, one.1, more.1, sum))

grows_defined : (o : Option ℕ) (p : Point) → (p.next ≤ (with_defined o p).next) × ((with_defined o p).next ≤ p.next + 1)
grows_defined None p = (omega arith, omega arith)
grows_defined (Some x) p = (omega arith, omega arith)

grows-one : (s : Stmt) (kind : OpKind) → is_test kind ≡ false → IsOne s kind → GrowsStmt s
grows-one s kind single is = subst (λ (q : Unrolling × ℕ). Grows q.0 q.1) (λ i. (sym (unrolling-one s kind single is) i, sym (operations-one s kind is) i)) (grows_defined (defined_variable kind))

grows-conditional : (s : Stmt) (x : ℕ) (e : Expr) (first second : List Stmt) → IsConditional s x e first second → AllByRecursion GrowsStmt first → AllByRecursion GrowsStmt second → GrowsStmt s
grows-conditional s x e first second is all others = subst (λ (q : Unrolling × ℕ). Grows q.0 q.1) (λ i. (sym (is Unrolling unroll_step) i, sym (is ℕ count_step) i))
    (λ p.
    let one = grows_all first all (with_next x p) in
    let two = grows_all second others (all_after (map unrolling first) (with_next x p)) in
    (omega (arith, one.0, two.0), omega (arith, one.1, two.1)))

grows-loop : (s : Stmt) (x : ℕ) (from to : ℤ) (body : List Stmt) → IsLoop s x from to body → AllByRecursion GrowsStmt body → GrowsStmt s
grows-loop s x from to body is all = subst (λ (q : Unrolling × ℕ). Grows q.0 q.1) (λ i. (sym (is Unrolling unroll_step) i, sym (is ℕ count_step) i))
    (λ p.
    let g = grows_turns x body all (turn_numbers from to) p in
    let same : length (turn_numbers from to) * operations body ≡ turns from to * operations body = ap (λ n. n * operations body) (length-ascending (turns from to) from) in
    (g.0, omega (arith, g.1, same)))

pub next-grows : (s : Stmt) (p : Point) → (p.next ≤ ((unrolling s).after p).next) × (((unrolling s).after p).next ≤ p.next + stmt_operations s)
next-grows = by_shape GrowsStmt grows-one grows-conditional grows-loop

pub all_next-grows : (ss : List Stmt) (p : Point) → (p.next ≤ (all_after (map unrolling ss) p).next) × ((all_after (map unrolling ss) p).next ≤ p.next + operations ss)
all_next-grows ss = grows_all ss (all_by_shape GrowsStmt grows-one grows-conditional grows-loop ss)
