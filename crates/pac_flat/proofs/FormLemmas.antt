-- What a flat form is made of: as many operations as the steps, under conditions that begin with those round them, which
-- define variables one after another.
use Rattle.std.proofs.Common.{◌≡◌, ℕ, ◌+◌, Bool, true, false, ◌&&◌, List, [], ◌∷◌, ◌++◌, length, map, refl, sym, ap, subst, ◌∙◌, arith, append_assoc, length-append}
use Rattle.std.proofs.lemmas.List.Sums.{sum_by-cons}
use Rattle.std.specs.FinMap.{get}
use Rattle.std.specs.List.{AllByRecursion}
use Rattle.pac_value.specs.Expressions.{Values}
use Rattle.pac_ops.specs.declared.program.FlatOp.{FlatOp}
use Rattle.pac_ops.specs.declared.program.OpKind.TheVariants.{Cond}
use Rattle.pac_ops.specs.Flat.{is_as_asked, all_hold}
use Rattle.pac_ops.specs.Programs.{count_ops}
use Rattle.pac_ops.specs.Uses.{defined_variable}
use Rattle.pac_types.specs.declared.procedure.Proc.{Proc}
use Rattle.pac_types.specs.OperationLimits.{all_operations}
use Rattle.pac_types.specs.Meaning.{operations, step_count}
use Rattle.pac_types.specs.Unrolled.{UnrolledSteps, End, Op, Branch, unrolled}
use Rattle.pac_types.proofs.RunsOnLemmas.{RunsOn, runs_on-joined, variable_list}
use Rattle.pac_types.proofs.UnrolledLemmas.{unrolled-count}
use Rattle.pac_flat.specs.FlatForm.{Conditions, flat, flat_form, inside, under, program_of}

-- ---- how many

pub length-flat : (steps : UnrolledSteps) (conds : Conditions) → length (flat steps conds) ≡ step_count steps
length-flat End conds = refl
length-flat (Op kind rest) conds = omega (arith, length-flat rest conds)
length-flat (Branch x e first second rest) conds =
    let a = flat first (inside conds x true) in
    let b = flat second (inside conds x false) in
    omega (arith, length-append (under conds (Cond x e) ∷ a ++ b) (flat rest conds), length-append a b, length-flat first (inside conds x true), length-flat second (inside conds x false), length-flat rest conds)

-- a procedure's flat form has as many operations as it
pub length-flat_form : (proc : Proc) → length (flat_form proc) ≡ operations proc.body
length-flat_form proc = length-flat (unrolled proc) [] ∙ unrolled-count proc

-- the programs of procedures have as many operations as these
pub count_all : (procs : List Proc) → count_ops (map program_of procs) ≡ all_operations procs
count_all [] = refl
count_all (proc ∷ procs) = omega (arith, length-flat_form proc, count_all procs, sum_by-cons (λ (p : Proc). operations p.body) proc procs)

-- ---- variables

-- the variables that operations define
abbrev pub defined_in : List FlatOp → List ℕ
defined_in [] = []
defined_in (op ∷ ops) = variable_list (defined_variable op.kind) ++ defined_in ops

pub defined_in-append : (xs ys : List FlatOp) → defined_in (xs ++ ys) ≡ defined_in xs ++ defined_in ys
defined_in-append [] ys = refl
defined_in-append (x ∷ xs) ys =
    ap (λ l. variable_list (defined_variable x.kind) ++ l) (defined_in-append xs ys) ∙ sym (append_assoc (variable_list (defined_variable x.kind)) (defined_in xs) (defined_in ys))

-- the variables of steps run on from the number m to before k
abbrev pub RunsTo : ℕ → UnrolledSteps → ℕ → Type 0
RunsTo m End k = m ≡ k
RunsTo m (Op kind rest) k = RunsOn m (variable_list (defined_variable kind)) × RunsTo (m + length (variable_list (defined_variable kind))) rest k
RunsTo m (Branch x e first second rest) k = (x ≡ m) × (i j : ℕ) × RunsTo (m + 1) first i × RunsTo i second j × RunsTo j rest k

-- and so do those of their operations
pub runs_to-defined : (steps : UnrolledSteps) (conds : Conditions) (m k : ℕ) → RunsTo m steps k → RunsOn m (defined_in (flat steps conds)) × (m + length (defined_in (flat steps conds)) ≡ k)
runs_to-defined End conds m k run = (tt, omega (arith, run))
runs_to-defined (Op kind rest) conds m k run =
    let n = m + length (variable_list (defined_variable kind)) in
    let more = runs_to-defined rest conds n k run.1 in (
      runs_on-joined m n (variable_list (defined_variable kind)) (defined_in (flat rest conds)) refl run.0 more.0,
      omega (arith, length-append (variable_list (defined_variable kind)) (defined_in (flat rest conds)), more.1),
    )
runs_to-defined (Branch x e first second rest) conds m k (is, i, j, run_a, run_b, run) =
    let fa = flat first (inside conds x true) in
    let fb = flat second (inside conds x false) in
    let r = flat rest conds in
    let a = runs_to-defined first (inside conds x true) (m + 1) i run_a in
    let b = runs_to-defined second (inside conds x false) i j run_b in
    let c = runs_to-defined rest conds j k run in
    let parts : defined_in (flat (Branch x e first second rest) conds) ≡ (x ∷ defined_in fa ++ defined_in fb) ++ defined_in r
    = defined_in-append (under conds (Cond x e) ∷ fa ++ fb) r ∙ ap (λ l. (x ∷ l) ++ defined_in r) (defined_in-append fa fb) in
    let test : RunsOn m (x ∷ defined_in fa ++ defined_in fb) = (is, runs_on-joined (m + 1) i (defined_in fa) (defined_in fb) a.1 a.0 b.0) in
    let long : m + length (x ∷ defined_in fa ++ defined_in fb) ≡ j = omega (arith, length-append (defined_in fa) (defined_in fb), a.1, b.1) in (
      subst (RunsOn m) (sym parts) (runs_on-joined m j (x ∷ defined_in fa ++ defined_in fb) (defined_in r) long test c.0),
      omega (arith, ap length parts, length-append (x ∷ defined_in fa ++ defined_in fb) (defined_in r), long, c.1),
    )

-- ---- conditions

-- conditions with one more hold where both do
pub all_hold-inside : (env : Values) (conds : Conditions) (x : ℕ) (value : Bool) → all_hold env (inside conds x value) ≡ (all_hold env conds && is_as_asked value (get env x))
all_hold-inside env [] x value = and_true (is_as_asked value (get env x))
  where
    and_true : (b : Bool) → (b && true) ≡ b
    and_true true = refl
    and_true false = refl
all_hold-inside env (c ∷ cs) x value = ap (λ b. is_as_asked c.1 (get env c.0) && b) (all_hold-inside env cs x value) ∙ assoc (is_as_asked c.1 (get env c.0)) _ _
  where
    assoc : (a b d : Bool) → (a && (b && d)) ≡ ((a && b) && d)
    assoc true b d = refl
    assoc false b d = refl

-- of each operation some condition does not hold
abbrev pub AllShut : Values → List FlatOp → Type 0
AllShut env ops = AllByRecursion (λ op. all_hold env op.conds ≡ false) ops

shut-append : (env : Values) (xs ys : List FlatOp) → AllShut env xs → AllShut env ys → AllShut env (xs ++ ys)
shut-append env [] ys h g = g
shut-append env (x ∷ xs) ys h g = (h.0, shut-append env xs ys h.1 g)

-- where conditions do not all hold, neither do they with one more
pub shut_inside : (env : Values) (conds : Conditions) (x : ℕ) (value : Bool) → all_hold env conds ≡ false → all_hold env (inside conds x value) ≡ false
shut_inside env conds x value h = all_hold-inside env conds x value ∙ ap (λ b. b && is_as_asked value (get env x)) h

-- under conditions that do not all hold no operation does anything
pub shut-flat : (steps : UnrolledSteps) (env : Values) (conds : Conditions) → all_hold env conds ≡ false → AllShut env (flat steps conds)
shut-flat End env conds h = tt
shut-flat (Op kind rest) env conds h = (h, shut-flat rest env conds h)
shut-flat (Branch x e first second rest) env conds h = (
  h,
  shut-append env (flat first (inside conds x true) ++ flat second (inside conds x false)) (flat rest conds)
      (shut-append env (flat first (inside conds x true)) (flat second (inside conds x false))
      (shut-flat first env (inside conds x true) (shut_inside env conds x true h)) (shut-flat second env (inside conds x false) (shut_inside env conds x false h)))
      (shut-flat rest env conds h),
)
