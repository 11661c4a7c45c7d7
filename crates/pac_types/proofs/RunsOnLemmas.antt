-- Numbers one after another, and what variables of lower numbers stand for.
use Rattle.std.proofs.Common.{◌≡◌, ◌≢◌, ◌<◌, ℕ, zero, suc, ◌+◌, ◌==◌, ℤ, false, List, [], ◌∷◌, ◌++◌, length, map, Option, Some, None, refl, sym, ap, subst, ◌∙◌, arith}
use Rattle.std.specs.Prelude.{if◌then◌else◌}
use Rattle.std.specs.List.{AllByRecursion, range_with_len}
use Rattle.std.proofs.lemmas.Bool.Decides.{nat_tests}
use Rattle.pac_value.specs.declared.expr.Expr.{Expr}
use Rattle.pac_ops.specs.declared.program.OpKind.{OpKind}
use Rattle.pac_ops.specs.declared.program.OpKind.TheVariants as kind
use Rattle.pac_ops.specs.Uses.{defined_variable}
use Rattle.pac_types.specs.declared.procedure.Proc.{Proc}
use Rattle.pac_types.specs.declared.statement.Stmt.{Stmt}
use Rattle.pac_types.specs.declared.table.Table.{Table}
use Rattle.pac_types.specs.Typing.{IsProc}
use Rattle.pac_types.specs.Unrolled.{turn_numbers, Names, renaming, Point, with_next, with_turn, with_defined, Unrolling, all_after, after_turns, unroll_step, unrolling}
use Rattle.pac_types.specs.Variables.{variables_step, stmt_variables, defined_variables}
use Rattle.pac_types.proofs.StmtShapes.{form_of, is_test, IsOne, IsConditional, IsLoop, all_by_shape}
use Rattle.pac_types.proofs.UnrolledLemmas.{unrolling-one}

-- the numbers run on from n
abbrev pub RunsOn : ℕ → List ℕ → Type 0
RunsOn n [] = Unit {0}
RunsOn n (x ∷ xs) = (x ≡ n) × RunsOn (n + 1) xs

pub runs_on-range : (n k : ℕ) → RunsOn n (range_with_len n k)
runs_on-range n zero = tt
runs_on-range n (suc k) = (refl, runs_on-range (n + 1) k)

pub runs_on-parts : (n : ℕ) (xs ys : List ℕ) → RunsOn n (xs ++ ys) → RunsOn n xs × RunsOn (n + length xs) ys
runs_on-parts n [] ys h = let same : n ≡ n + 0 = omega arith in (tt, subst (λ k. RunsOn k ys) same h)
runs_on-parts n (x ∷ xs) ys h =
    let p = runs_on-parts (n + 1) xs ys h.1 in
    let same : n + 1 + length xs ≡ n + length (x ∷ xs) = omega arith in
    ((h.0, p.0), subst (λ k. RunsOn k ys) same p.1)

pub runs_on-joined : (n m : ℕ) (xs ys : List ℕ) → n + length xs ≡ m → RunsOn n xs → RunsOn m ys → RunsOn n (xs ++ ys)
runs_on-joined n m [] ys on h g = let same : m ≡ n = omega (arith, on) in subst (λ k. RunsOn k ys) same g
runs_on-joined n m (x ∷ xs) ys on h g = (h.0, runs_on-joined (n + 1) m xs ys (omega (arith, on)) h.1 g)

-- the variables of a procedure run on from the first after the parameters
pub runs_on-proc : (tables : List Table) (proc : Proc) → IsProc tables proc → RunsOn (length proc.params) (defined_variables proc.body)
runs_on-proc tables proc is = subst (RunsOn (length proc.params)) (sym is.numbered) (runs_on-range (length proc.params) (length (defined_variables proc.body)))

-- the variable of an operation as a list
abbrev pub variable_list : Option ℕ → List ℕ
variable_list None = []
variable_list (Some x) = x ∷ []

defines_one : (kind : OpKind) → is_test kind ≡ false → variables_step (form_of (List ℕ) kind) ≡ variable_list (defined_variable kind)
defines_one (kind.Let x e) single = refl
defines_one (kind.Cond x e) single = absurd cc
defines_one (kind.Read x t k c d) single = refl
defines_one (kind.Has x t k) single = refl
defines_one (kind.Put t k es) single = refl
defines_one (kind.SetCol t k c e) single = refl
defines_one (kind.Delete t k) single = refl
defines_one (kind.AbortIf e) single = refl

pub variables-one : (s : Stmt) (kind : OpKind) → is_test kind ≡ false → IsOne s kind → stmt_variables s ≡ variable_list (defined_variable kind)
variables-one s kind single is = is (List ℕ) variables_step ∙ defines_one kind single

-- ---- names

named-other : (names : Names) (x : ℕ) (e : Expr) (y : ℕ) → y ≢ x → renaming names x e y ≡ names y
named-other names x e y h = ap (λ b. if b then e else names y) (unlike y x h)
  where
    unlike : (y x : ℕ) → y ≢ x → (y == x) ≡ false
    unlike y x h = grind (arith, nat_tests)

lower-other : (names : Names) (x : ℕ) (e : Expr) (y k : ℕ) → x ≡ k → y < k → renaming names x e y ≡ names y
lower-other names x e y k is lt = named-other names x e y (λ h. let no_way : ⊥ = omega (arith, is, lt, h) in no_way)

-- after a statement a variable of a lower number stands for what it stood for
abbrev KeepsNames : Unrolling → List ℕ → Type 0
KeepsNames u xs = (k : ℕ) → RunsOn k xs → (p : Point) (y : ℕ) → y < k → (u.after p).names y ≡ p.names y

abbrev KeepsNamesStmt : Stmt → Type 0
KeepsNamesStmt s = KeepsNames (unrolling s) (stmt_variables s)

keeps_all : (ss : List Stmt) → AllByRecursion KeepsNamesStmt ss → (k : ℕ) → RunsOn k (defined_variables ss) → (p : Point) (y : ℕ) → y < k → (all_after (map unrolling ss) p).names y ≡ p.names y
keeps_all [] all k run p y lt = refl
keeps_all (s ∷ ss) all k run p y lt =
    let parts = runs_on-parts k (stmt_variables s) (defined_variables ss) run in
    keeps_all ss all.1 (k + length (stmt_variables s)) parts.1 ((unrolling s).after p) y (omega (arith, lt)) ∙ all.0 k parts.0 p y lt

keeps_turns : (x : ℕ) (ss : List Stmt) → AllByRecursion KeepsNamesStmt ss → (k : ℕ) → x ≡ k → RunsOn (k + 1) (defined_variables ss) → (is : List ℤ) (p : Point) (y : ℕ) → y < k → (after_turns x (map unrolling ss) is p).names y ≡ p.names y
keeps_turns x ss all k is run [] p y lt = refl
keeps_turns x ss all k is run (i ∷ more) p y lt =
    let turn = with_turn x i p in
    keeps_turns x ss all k is run more (all_after (map unrolling ss) turn) y lt
    ∙ keeps_all ss all (k + 1) run turn y (omega (arith, lt)) ∙ lower-other p.names x _ y k is lt

keeps_defined : (o : Option ℕ) (k : ℕ) → RunsOn k (variable_list o) → (p : Point) (y : ℕ) → y < k → (with_defined o p).names y ≡ p.names y
keeps_defined None k run p y lt = refl
keeps_defined (Some x) k run p y lt = lower-other p.names x _ y k run.0 lt

keeps-one : (s : Stmt) (kind : OpKind) → is_test kind ≡ false → IsOne s kind → KeepsNamesStmt s
keeps-one s kind single is = subst (λ (q : Unrolling × List ℕ). KeepsNames q.0 q.1) (λ i. (sym (unrolling-one s kind single is) i, sym (variables-one s kind single is) i)) (keeps_defined (defined_variable kind))

keeps-conditional : (s : Stmt) (x : ℕ) (e : Expr) (first second : List Stmt) → IsConditional s x e first second → AllByRecursion KeepsNamesStmt first → AllByRecursion KeepsNamesStmt second → KeepsNamesStmt s
keeps-conditional s x e first second is all others = subst (λ (q : Unrolling × List ℕ). KeepsNames q.0 q.1) (λ i. (sym (is Unrolling unroll_step) i, sym (is (List ℕ) variables_step) i))
    (λ k run p y lt.
    let parts = runs_on-parts (k + 1) (defined_variables first) (defined_variables second) run.1 in
    let inner = with_next x p in
    keeps_all second others (k + 1 + length (defined_variables first)) parts.1 (all_after (map unrolling first) inner) y (omega (arith, lt))
    ∙ keeps_all first all (k + 1) parts.0 inner y (omega (arith, lt)) ∙ lower-other p.names x _ y k run.0 lt)

keeps-loop : (s : Stmt) (x : ℕ) (from to : ℤ) (body : List Stmt) → IsLoop s x from to body → AllByRecursion KeepsNamesStmt body → KeepsNamesStmt s
keeps-loop s x from to body is all = subst (λ (q : Unrolling × List ℕ). KeepsNames q.0 q.1) (λ i. (sym (is Unrolling unroll_step) i, sym (is (List ℕ) variables_step) i))
    (λ k run p y lt. keeps_turns x body all k run.0 run.1 (turn_numbers from to) p y lt)

pub all_names-kept : (ss : List Stmt) (k : ℕ) → RunsOn k (defined_variables ss) → (p : Point) (y : ℕ) → y < k → (all_after (map unrolling ss) p).names y ≡ p.names y
all_names-kept ss = keeps_all ss (all_by_shape KeepsNamesStmt keeps-one keeps-conditional keeps-loop ss)

-- in a turn too
pub turn_names-kept : (ss : List Stmt) (x k : ℕ) → x ≡ k → RunsOn (k + 1) (defined_variables ss) → (i : ℤ) (p : Point) (y : ℕ) → y < k → (all_after (map unrolling ss) (with_turn x i p)).names y ≡ p.names y
turn_names-kept ss x k is run i p y lt = all_names-kept ss (k + 1) run (with_turn x i p) y (omega (arith, lt)) ∙ lower-other p.names x _ y k is lt
