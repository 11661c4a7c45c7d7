-- The steps of a procedure without loops are its statements as they are written, with the numbers of the text.
use Rattle.std.proofs.Common.{◌≡◌, ℕ, ◌+◌, ◌==◌, ◌&&◌, ℤ, Bool, true, false, List, [], ◌∷◌, length, map, refl, sym, ap, subst, ◌∙◌, arith, ◌++◌, length-append}
use Rattle.std.specs.Prelude.{if◌then◌else◌}
use Rattle.std.specs.List.{AllByRecursion}
use Rattle.pac_value.specs.declared.expr.Expr.{Expr, Var, Bin, Not}
use Rattle.pac_value.proofs.ByForms.{by_forms, fold-Lit, fold-Var, fold-Bin, fold-Not}
use Rattle.pac_ops.specs.declared.program.OpKind.{OpKind}
use Rattle.pac_ops.specs.declared.program.OpKind.TheVariants as kind
use Rattle.pac_ops.specs.Uses.{defined_variable}
use Rattle.pac_types.specs.declared.procedure.Proc.{Proc}
use Rattle.pac_types.specs.declared.statement.Stmt.{Stmt}
use Rattle.pac_types.specs.declared.table.Table.{Table}
use Rattle.pac_types.specs.AsWritten.{none_loops, loopless_step, is_loopless, HasNoLoop, in_a_line, written_step, stmt_as_written, as_written}
use Rattle.pac_types.specs.Typing.{IsProc}
use Rattle.pac_types.specs.Unrolled.{UnrolledSteps, End, Op, Branch, renaming, renamed, renamed_step, renamed_kind, Point, with_next, with_defined, Unrolling, all_after, in_steps, unroll_step, unrolling, unrolled}
use Rattle.pac_types.specs.Variables.{variables_step, stmt_variables, defined_variables}
use Rattle.pac_types.proofs.PartLemmas.{equal}
use Rattle.pac_types.proofs.RunsOnLemmas.{RunsOn, runs_on-parts, runs_on-proc, variable_list, variables-one}
use Rattle.pac_types.proofs.StmtShapes.{form_of, is_test, IsOne, IsConditional, IsLoop, all_by_shape}
use Rattle.pac_types.proofs.UnrolledLemmas.{unrolling-one}

-- variables that stand for themselves change nothing
renamed-itself : (e : Expr) → renamed Var e ≡ e
renamed-itself = by_forms (λ e. renamed Var e ≡ e)
    (λ v. fold-Lit Expr (renamed_step Var) v)
    (λ x. fold-Var Expr (renamed_step Var) x)
    (λ op l r a b. fold-Bin Expr (renamed_step Var) op l r ∙ (λ i. Bin op (a i) (b i)))
    (λ e a. fold-Not Expr (renamed_step Var) e ∙ ap Not a)

all_renamed-itself : (es : List Expr) → map (renamed Var) es ≡ es
all_renamed-itself [] = refl
all_renamed-itself (e ∷ es) = λ i. renamed-itself e i ∷ all_renamed-itself es i

naming-itself : (x : ℕ) → renaming Var x (Var x) ≡ Var
naming-itself x i y = go (y == x) refl i
  where
    go : (b : Bool) → (y == x) ≡ b → (if y == x then Var x else Var y) ≡ Var y
    go true h = ap (λ b. if b then Var x else Var y) h ∙ ap Var (sym (equal y x h))
    go false h = ap (λ b. if b then Var x else Var y) h

-- all variables stand for themselves, and this is the next
abbrev plain : ℕ → Point
plain n = record { names = Var; next = n }

next-itself : (x n : ℕ) → x ≡ n → with_next x (plain n) ≡ plain (n + 1)
next-itself x n is = λ i. record { names = ((ap (λ k. renaming Var x (Var k)) (sym is)) ∙ naming-itself x) i; next = n + 1 }

kind-itself : (kind : OpKind) (n : ℕ) → RunsOn n (variable_list (defined_variable kind)) → (renamed_kind (plain n) kind ≡ kind) × (with_defined (defined_variable kind) (plain n) ≡ plain (n + length (variable_list (defined_variable kind))))
kind-itself (kind.Let x e) n run = ((λ i. kind.Let (sym run.0 i) (renamed-itself e i)), next-itself x n run.0)
kind-itself (kind.Cond x e) n run = ((λ i. kind.Cond (sym run.0 i) (renamed-itself e i)), next-itself x n run.0)
kind-itself (kind.Read x t k c d) n run = ((λ i. kind.Read (sym run.0 i) t (renamed-itself k i) c d), next-itself x n run.0)
kind-itself (kind.Has x t k) n run = ((λ i. kind.Has (sym run.0 i) t (renamed-itself k i)), next-itself x n run.0)
kind-itself (kind.Put t k es) n run = ((λ i. kind.Put t (renamed-itself k i) (all_renamed-itself es i)), more n)
  where
    more : (n : ℕ) → plain n ≡ plain (n + 0)
    more n = let same : n ≡ n + 0 = omega arith in ap plain same
kind-itself (kind.SetCol t k c e) n run = let same : n ≡ n + 0 = omega arith in ((λ i. kind.SetCol t (renamed-itself k i) c (renamed-itself e i)), ap plain same)
kind-itself (kind.Delete t k) n run = let same : n ≡ n + 0 = omega arith in ((λ i. kind.Delete t (renamed-itself k i)), ap plain same)
kind-itself (kind.AbortIf e) n run = let same : n ≡ n + 0 = omega arith in ((λ i. kind.AbortIf (renamed-itself e i)), ap plain same)

both : (a b : Bool) → (a && b) ≡ true → (a ≡ true) × (b ≡ true)
both true b h = (refl, h)
both false b h = absurd cc

-- a statement without loops, whose variables run on from the next, is what is written
abbrev Written : Unrolling → List ℕ → Bool → (UnrolledSteps → UnrolledSteps) → Type 0
Written u xs loopless steps = loopless ≡ true → (n : ℕ) → RunsOn n xs → (u.after (plain n) ≡ plain (n + length xs)) × ((rest : UnrolledSteps) → u.steps (plain n) rest ≡ steps rest)

abbrev WrittenStmt : Stmt → Type 0
WrittenStmt s = Written (unrolling s) (stmt_variables s) (is_loopless s) (stmt_as_written s)

written_all : (ss : List Stmt) → AllByRecursion WrittenStmt ss → none_loops (map is_loopless ss) ≡ true → (n : ℕ) → RunsOn n (defined_variables ss)
    → (all_after (map unrolling ss) (plain n) ≡ plain (n + length (defined_variables ss))) × ((rest : UnrolledSteps) → in_steps (map unrolling ss) (plain n) rest ≡ in_a_line (map stmt_as_written ss) rest)
written_all [] all none n run = let same : n ≡ n + 0 = omega arith in (ap plain same, λ rest. refl)
written_all (s ∷ ss) all none n run =
    let none_of = both (is_loopless s) (none_loops (map is_loopless ss)) none in
    let parts = runs_on-parts n (stmt_variables s) (defined_variables ss) run in
    let m = n + length (stmt_variables s) in
    let first = all.0 none_of.0 n parts.0 in
    let more = written_all ss all.1 none_of.1 m parts.1 in
    let sum : m + length (defined_variables ss) ≡ n + length (defined_variables (s ∷ ss)) = omega (arith, length-append (stmt_variables s) (defined_variables ss)) in (
      ap (all_after (map unrolling ss)) first.0 ∙ more.0 ∙ ap plain sum,
      λ rest. first.1 (in_steps (map unrolling ss) ((unrolling s).after (plain n)) rest) ∙ ap (λ p. stmt_as_written s (in_steps (map unrolling ss) p rest)) first.0 ∙ ap (stmt_as_written s) (more.1 rest),
    )

loopless_one : (kind : OpKind) → is_test kind ≡ false → written_step (form_of (UnrolledSteps → UnrolledSteps) kind) ≡ Op kind
loopless_one (kind.Let x e) single = refl
loopless_one (kind.Cond x e) single = absurd cc
loopless_one (kind.Read x t k c d) single = refl
loopless_one (kind.Has x t k) single = refl
loopless_one (kind.Put t k es) single = refl
loopless_one (kind.SetCol t k c e) single = refl
loopless_one (kind.Delete t k) single = refl
loopless_one (kind.AbortIf e) single = refl

written-one : (s : Stmt) (kind : OpKind) → is_test kind ≡ false → IsOne s kind → WrittenStmt s
written-one s kind single is = subst (λ (q : Unrolling × List ℕ × (UnrolledSteps → UnrolledSteps)). Written q.0 q.1 (is_loopless s) q.2)
    (λ i. (sym (unrolling-one s kind single is) i, sym (variables-one s kind single is) i, sym (is (UnrolledSteps → UnrolledSteps) written_step ∙ loopless_one kind single) i))
    (λ none n run. let k = kind-itself kind n run in (k.1, λ rest. ap (λ z. Op z rest) k.0))

written-conditional : (s : Stmt) (x : ℕ) (e : Expr) (first second : List Stmt) → IsConditional s x e first second → AllByRecursion WrittenStmt first → AllByRecursion WrittenStmt second → WrittenStmt s
written-conditional s x e first second is all others = subst (λ (q : Unrolling × List ℕ × Bool × (UnrolledSteps → UnrolledSteps)). Written q.0 q.1 q.2 q.3)
    (λ i. (sym (is Unrolling unroll_step) i, sym (is (List ℕ) variables_step) i, sym (is Bool loopless_step) i, sym (is (UnrolledSteps → UnrolledSteps) written_step) i))
    (λ none n run.
    let none_of = both (none_loops (map is_loopless first)) (none_loops (map is_loopless second)) none in
    let parts = runs_on-parts (n + 1) (defined_variables first) (defined_variables second) run.1 in
    let inner : with_next x (plain n) ≡ plain (n + 1) = next-itself x n run.0 in
    let a = written_all first all none_of.0 (n + 1) parts.0 in
    let m = n + 1 + length (defined_variables first) in
    let b = written_all second others none_of.1 m parts.1 in
    let between : all_after (map unrolling first) (with_next x (plain n)) ≡ plain m = ap (all_after (map unrolling first)) inner ∙ a.0 in
    let sum : m + length (defined_variables second) ≡ n + length (x ∷ defined_variables first ++ defined_variables second) = omega (arith, length-append (defined_variables first) (defined_variables second)) in (
      ap (all_after (map unrolling second)) between ∙ b.0 ∙ ap plain sum,
      λ rest. λ i. Branch (sym run.0 i) (renamed-itself e i) ((ap (λ p. in_steps (map unrolling first) p End) inner ∙ a.1 End) i) ((ap (λ p. in_steps (map unrolling second) p End) between ∙ b.1 End) i) rest,
    ))

written-loop : (s : Stmt) (x : ℕ) (from to : ℤ) (body : List Stmt) → IsLoop s x from to body → AllByRecursion WrittenStmt body → WrittenStmt s
written-loop s x from to body is all = λ none n run. let wrong : false ≡ true = sym (is Bool loopless_step) ∙ none in absurd cc

-- the steps of a procedure without loops
pub unrolled-as_written : (tables : List Table) (proc : Proc) → IsProc tables proc → HasNoLoop proc.body → unrolled proc ≡ as_written proc.body
unrolled-as_written tables proc is none = (written_all proc.body (all_by_shape WrittenStmt written-one written-conditional written-loop proc.body) none (length proc.params) (runs_on-proc tables proc is)).1 End
