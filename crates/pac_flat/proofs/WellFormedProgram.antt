-- The flat form of a well-formed procedure is a well-formed program.
use Rattle.std.proofs.Common.{◌≡◌, ℕ, zero, suc, ◌+◌, ◌<◌, ◌≤◌, Bool, true, false, ◌||◌, ◌==◌, List, [], ◌∷◌, ◌++◌, length, map, Option, Some, None, is_some, ◌⊎◌, inl, inr, refl, sym, ap, subst, ◌∙◌, arith, append_assoc, append-nil, length-append, get_or, All}
use Rattle.std.specs.Prelude.{slice_get, IsSomeAnd, Contains}
use Rattle.std.specs.List.{AllByRecursion}
use Rattle.std.specs.Option.{option_map}
use Rattle.std.proofs.lemmas.Bool.Decides.{nat_tests}
use Rattle.std.proofs.lemmas.List.{length-map}
use Rattle.std.proofs.lemmas.Option.{slice_get_within, slice_get-get_or, slice_get-map}
use Rattle.pac_value.specs.declared.values.Ty.{Ty}
use Rattle.pac_value.specs.declared.values.Ty.TheVariants.{Bool as BoolTy}
use Rattle.pac_value.specs.declared.expr.Expr.{Expr}
use Rattle.pac_value.specs.Expressions.{type_in}
use Rattle.pac_value.specs.Scopes.{Scope, with_var, is_bool}
use Rattle.pac_ops.specs.declared.limits.TheConstants.{MAX_OPS}
use Rattle.pac_ops.specs.declared.program.FlatOp.{FlatOp}
use Rattle.pac_ops.specs.declared.program.OpKind.{OpKind}
use Rattle.pac_ops.specs.declared.program.OpKind.TheVariants.{Let, Cond, Read, Has, Put, SetCol, Delete, AbortIf}
use Rattle.pac_ops.specs.Programs.{IsPrefixOf, IsWellTyped, given_type, scope_in, IsDefinedBefore, IsCondition, IsWellFormedProgram, AreWellFormedPrograms}
use Rattle.pac_ops.specs.Uses.{kind_uses, conds_use, op_uses, defined_variable, Defines}
use Rattle.pac_types.specs.declared.procedure.Proc.{Proc}
use Rattle.pac_types.specs.declared.table.Table.{Table}
use Rattle.pac_types.specs.Meaning.{operations}
use Rattle.pac_types.specs.OperationLimits.{HasFewOperations}
use Rattle.pac_types.specs.Typing.{IsProc}
use Rattle.pac_types.specs.Unrolled.{UnrolledSteps, End, Op, Branch, all_after, unrolling, beginning, unrolled}
use Rattle.pac_types.specs.WellFormed.{types, scope_after_all, scope_of}
use Rattle.pac_types.proofs.PartLemmas.{equal}
use Rattle.pac_types.proofs.RunsOnLemmas.{RunsOn, variable_list, runs_on-proc}
use Rattle.pac_types.proofs.ScopeLemmas.{Within, type_in-within}
use Rattle.pac_flat.specs.FlatForm.{Conditions, flat, flat_form, inside, under, with_type, types_after, program_of}
use Rattle.pac_flat.proofs.FormLemmas.{length-flat_form, defined_in, RunsTo, runs_to-defined}
use Rattle.pac_flat.proofs.PrefixLemmas.{at-end, some-prefix, some-end, some-within, some-mapped, of-contained, prefix-itself, prefix-more, types_after-append, prefix-types_after, within-prefix}
use Rattle.pac_flat.proofs.NumberedLemmas.{numbered-unrolled}
use Rattle.pac_flat.proofs.UnrollTypes.{AreWellFormed, all_steady, typed-beginning}
use Rattle.pac_flat.proofs.TypeLemmas.{either, from_either, shapes, Adds, adds_one, single_well_formed, well_typed-within, visible-kind, SameThere, gives_there}

module _ (tables : List Table) (params : List Ty) where
  -- the types of the variables after operations
  abbrev T : List FlatOp → List Ty
  T before = types_after params before

  -- one of the operations before defines the variable, under conditions that these begin with
  abbrev DefinedUnder : List FlatOp → Conditions → ℕ → Type 0
  DefinedUnder before conds x = (i : ℕ) × IsSomeAnd (slice_get before i) (λ op. (defined_variable op.kind ≡ Some x) × IsPrefixOf op.conds conds)

  -- the variables of conditions are defined before, by tests
  record Knows (before : List FlatOp) (conds : Conditions) : Type 0 where
    defined : (x : ℕ) → conds_use x conds ≡ true → DefinedUnder before conds x
    tests : AllByRecursion (λ (c : ℕ × Bool). IsCondition before c.0) conds

  -- an operation after others is well typed there, its variable is the next, and what it uses is there
  record IsFine (before : List FlatOp) (op : FlatOp) : Type 0 where
    typed : IsWellTyped (shapes tables) (scope_in (T before)) op.kind
    number : (x : ℕ) → defined_variable op.kind ≡ Some x → x ≡ length (T before)
    used : (x : ℕ) → op_uses x op ≡ true → (x < length params) ⊎ DefinedUnder before op.conds x
    tests : AllByRecursion (λ (c : ℕ × Bool). IsCondition before c.0) op.conds

  abbrev FineFrom : List FlatOp → List FlatOp → Type 0
  FineFrom before [] = Unit {0}
  FineFrom before (op ∷ ops) = IsFine before op × FineFrom (before ++ op ∷ []) ops

  -- what is visible has the type that it has among the variables, and is a parameter or defined under these conditions
  abbrev Sees : Scope → List FlatOp → Conditions → Type 0
  Sees f before conds = (x : ℕ) (ty : Ty) → f x ≡ Some ty → (slice_get (T before) x ≡ Some ty) × ((x < length params) ⊎ DefinedUnder before conds x)

  -- ---- more operations before

  T-append : (before ops : List FlatOp) → T (before ++ ops) ≡ types_after (T before) ops
  T-append before ops = types_after-append params before ops

  T-prefix : (before ops : List FlatOp) → IsPrefixOf (T before) (T (before ++ ops))
  T-prefix before ops = subst (IsPrefixOf (T before)) (sym (T-append before ops)) (prefix-types_after ops (T before))

  defined-more : (before ops : List FlatOp) (conds : Conditions) (x : ℕ) → DefinedUnder before conds x → DefinedUnder (before ++ ops) conds x
  defined-more before ops conds x (i, h) = (i, some-prefix (λ op. (defined_variable op.kind ≡ Some x) × IsPrefixOf op.conds conds) before ops i h)

  defined-inside : (before : List FlatOp) (conds : Conditions) (y : ℕ) (v : Bool) (x : ℕ) → DefinedUnder before conds x → DefinedUnder before (inside conds y v) x
  defined-inside before conds y v x (i, h) = (
    i,
    some-mapped (λ (op : FlatOp). (defined_variable op.kind ≡ Some x) × IsPrefixOf op.conds conds) (λ (op : FlatOp). (defined_variable op.kind ≡ Some x) × IsPrefixOf op.conds (inside conds y v))
        (λ op g. (g.0, prefix-more op.conds conds ((y, v) ∷ []) g.1)) (slice_get before i) h,
  )

  test-more : (before ops : List FlatOp) (x : ℕ) → IsCondition before x → IsCondition (before ++ ops) x
  test-more before ops x (i, h) = (i, some-prefix (λ (op : FlatOp). (test : Expr) × (op.kind ≡ Cond x test)) before ops i h)

  tests-more : (before ops : List FlatOp) (conds : Conditions) → AllByRecursion (λ (c : ℕ × Bool). IsCondition before c.0) conds → AllByRecursion (λ (c : ℕ × Bool). IsCondition (before ++ ops) c.0) conds
  tests-more before ops [] h = tt
  tests-more before ops (c ∷ cs) h = (test-more before ops c.0 h.0, tests-more before ops cs h.1)

  knows-more : (before ops : List FlatOp) (conds : Conditions) → Knows before conds → Knows (before ++ ops) conds
  knows-more before ops conds k = record { defined = λ x h. defined-more before ops conds x (k.defined x h); tests = tests-more before ops conds k.tests }

  sees-more : (f : Scope) (before ops : List FlatOp) (conds : Conditions) → Sees f before conds → Sees f (before ++ ops) conds
  sees-more f before ops conds sees x ty h =
      let here = sees x ty h in (
        within-prefix (T before) (T (before ++ ops)) (T-prefix before ops) x ty here.0,
        from_either here.1 (λ lt. inl lt) (λ d. inr (defined-more before ops conds x d)),
      )

  sees-inside : (f : Scope) (before : List FlatOp) (conds : Conditions) (y : ℕ) (v : Bool) → Sees f before conds → Sees f before (inside conds y v)
  sees-inside f before conds y v sees x ty h =
      let here = sees x ty h in (here.0, from_either here.1 (λ lt. inl lt) (λ d. inr (defined-inside before conds y v x d)))

  sees-types : (f : Scope) (before : List FlatOp) (conds : Conditions) → Sees f before conds → Within f (scope_in (T before))
  sees-types f before conds sees x ty h = (sees x ty h).0

  fine-append : (before xs ys : List FlatOp) → FineFrom before xs → FineFrom (before ++ xs) ys → FineFrom before (xs ++ ys)
  fine-append before [] ys h g = subst (λ l. FineFrom l ys) (append-nil before) g
  fine-append before (x ∷ xs) ys h g = (h.0, fine-append (before ++ x ∷ []) xs ys h.1 (subst (λ l. FineFrom l ys) (sym (append_assoc before (x ∷ []) xs)) g))

  -- ---- one operation after others

  -- what operations leave: they are fine, and that many variables more are there
  record Goes (before : List FlatOp) (conds : Conditions) (ops : List FlatOp) (n : ℕ) (g : Scope) : Type 0 where
    fine : FineFrom before ops
    sees : Sees g (before ++ ops) conds
    count : length (T (before ++ ops)) ≡ length (T before) + n

  -- the same up to the variable of this number
  record GoesOn (before : List FlatOp) (ops : List FlatOp) (k : ℕ) : Type 0 where
    fine : FineFrom before ops
    count : length (T (before ++ ops)) ≡ k

  given-within : (f h : Scope) → Within f h → (kind : OpKind) (ty : Ty) → given_type f kind ≡ Some ty → given_type h kind ≡ Some ty
  given-within f h w (Let x e) ty is = type_in-within f h w e ty is
  given-within f h w (Cond x e) ty is = is
  given-within f h w (Read x t k c d) ty is = is
  given-within f h w (Has x t k) ty is = is
  given-within f h w (Put t k es) ty is = is
  given-within f h w (SetCol t k c e) ty is = is
  given-within f h w (Delete t k) ty is = is
  given-within f h w (AbortIf e) ty is = is

  next_variable : (n : ℕ) (o : Option ℕ) (x : ℕ) → RunsOn n (variable_list o) → o ≡ Some x → x ≡ n
  next_variable n None x run is = absurd cc
  next_variable n (Some y) x run is = let same : y ≡ x = cc in sym same ∙ run.0

  length-with_type : (vars : List Ty) (o : Option ℕ) (p : Option Ty) → SameThere (shapes tables) o p → length (with_type vars p) ≡ length vars + length (variable_list o)
  length-with_type vars None None same = omega arith
  length-with_type vars None (Some ty) same = absurd same
  length-with_type vars (Some x) None same = absurd same
  length-with_type vars (Some x) (Some ty) same = omega (arith, length-append vars (ty ∷ []))

  T-one : (before : List FlatOp) (op : FlatOp) → T (before ++ op ∷ []) ≡ with_type (T before) (given_type (scope_in (T before)) op.kind)
  T-one before op = T-append before (op ∷ [])

  used_there : (f : Scope) (before : List FlatOp) (conds : Conditions) (kind : OpKind) → Sees f before conds → Knows before conds → IsWellTyped (shapes tables) f kind
      → (x : ℕ) → op_uses x (under conds kind) ≡ true → (x < length params) ⊎ DefinedUnder before conds x
  used_there f before conds kind sees knows typed x uses = from_either (either (conds_use x conds) (kind_uses x kind) uses) (λ h. inr (knows.defined x h)) (λ h. go (f x) refl (visible-kind (shapes tables) f x kind typed h))
    where
      go : (o : Option Ty) → f x ≡ o → is_some o ≡ true → (x < length params) ⊎ DefinedUnder before conds x
      go None is there = absurd cc
      go (Some ty) is there = (sees x ty is).1

  goes_one : (conds : Conditions) (kind : OpKind) (before : List FlatOp) (f g : Scope) → IsWellTyped (shapes tables) f kind → Adds tables f g kind → Sees f before conds → Knows before conds
      → RunsOn (length (T before)) (variable_list (defined_variable kind)) → Goes before conds (under conds kind ∷ []) (length (variable_list (defined_variable kind))) g
  goes_one conds kind before f g typed adds sees knows run = record {
    fine = (
      record {
        typed = there;
        number = λ x is. next_variable (length (T before)) (defined_variable kind) x run is;
        used = used_there f before conds kind sees knows typed;
        tests = knows.tests;
      },
      tt,
    );
    sees = λ x ty h. from_either (adds x ty h) (λ old. sees-more f before (under conds kind ∷ []) conds sees x ty old) (λ new. added x ty new.0 (given-within f (scope_in (T before)) within kind ty new.1));
    count = ap length (T-one before (under conds kind)) ∙ length-with_type (T before) (defined_variable kind) (given_type (scope_in (T before)) kind) (gives_there (shapes tables) (scope_in (T before)) kind there);
  }
    where
      within : Within f (scope_in (T before))
      within = sees-types f before conds sees

      there : IsWellTyped (shapes tables) (scope_in (T before)) kind
      there = well_typed-within (shapes tables) f (scope_in (T before)) within kind typed

      added : (x : ℕ) (ty : Ty) → defined_variable kind ≡ Some x → given_type (scope_in (T before)) kind ≡ Some ty
          → (slice_get (T (before ++ under conds kind ∷ [])) x ≡ Some ty) × ((x < length params) ⊎ DefinedUnder (before ++ under conds kind ∷ []) conds x)
      added x ty defines gives = (
        ap (λ l. slice_get l x) (T-one before (under conds kind) ∙ ap (with_type (T before)) gives)
            ∙ ap (slice_get (T before ++ ty ∷ [])) (next_variable (length (T before)) (defined_variable kind) x run defines) ∙ at-end (T before) [] ty,
        inr (length before, some-end (λ (op : FlatOp). (defined_variable op.kind ≡ Some x) × IsPrefixOf op.conds conds) before [] (under conds kind) (defines, prefix-itself conds)),
      )

  -- ---- steps

  abbrev GoesSteps : UnrolledSteps → Type 0
  GoesSteps steps = (conds : Conditions) (before : List FlatOp) (f : Scope) (k : ℕ) → AreWellFormed tables steps f → Sees f before conds → Knows before conds → RunsTo (length (T before)) steps k → GoesOn before (flat steps conds) k

  goes_on : (before : List FlatOp) (xs ys : List FlatOp) (k : ℕ) → FineFrom before xs → GoesOn (before ++ xs) ys k → GoesOn before (xs ++ ys) k
  goes_on before xs ys k fine b = record {
    fine = fine-append before xs ys fine b.fine;
    count = ap (λ l. length (T l)) (sym (append_assoc before xs ys)) ∙ b.count;
  }

  goes_op : (kind : OpKind) (rest : UnrolledSteps) → GoesSteps rest → GoesSteps (Op kind rest)
  goes_op kind rest later conds before f k (g, ok, more) sees knows run =
      let p = single_well_formed tables kind f g ok in
      let one = under conds kind ∷ [] in
      let first = goes_one conds kind before f g p.0 p.1 sees knows run.0 in
      goes_on before one (flat rest conds) k first.fine
      (later conds (before ++ one) g k more first.sees (knows-more before one conds knows) (subst (λ n. RunsTo n rest k) (sym first.count) run.1))

  -- ---- a conditional

  conds_use-inside : (y : ℕ) (conds : Conditions) (x : ℕ) (v : Bool) → conds_use y (inside conds x v) ≡ true → (conds_use y conds ≡ true) ⊎ (x ≡ y)
  conds_use-inside y [] x v h = from_either (either (x == y) false h) (λ e. inr (equal x y e)) (λ e. absurd cc)
  conds_use-inside y (c ∷ cs) x v h = from_either (either (c.0 == y) (conds_use y (inside cs x v)) h) (λ e. inl (or_left (c.0 == y) (conds_use y cs) e))
      (λ e. from_either (conds_use-inside y cs x v e) (λ k. inl (or_right (c.0 == y) (conds_use y cs) k)) (λ k. inr k))
    where
      or_left : (a b : Bool) → a ≡ true → (a || b) ≡ true
      or_left true b e = refl
      or_left false b e = absurd cc

      or_right : (a b : Bool) → b ≡ true → (a || b) ≡ true
      or_right true b e = refl
      or_right false b e = e

  tests-inside : (before : List FlatOp) (conds : Conditions) (x : ℕ) (v : Bool) → AllByRecursion (λ (c : ℕ × Bool). IsCondition before c.0) conds → IsCondition before x → AllByRecursion (λ (c : ℕ × Bool). IsCondition before c.0) (inside conds x v)
  tests-inside before [] x v h here = (here, tt)
  tests-inside before (c ∷ cs) x v h here = (h.0, tests-inside before cs x v h.1 here)

  there_is : (o : Option Scope) → is_some o ≡ true → (h : Scope) × (o ≡ Some h)
  there_is None e = absurd cc
  there_is (Some h) e = (h, refl)

  module _ (x : ℕ) (e : Expr) (first second rest : UnrolledSteps) (goes_first : GoesSteps first) (goes_second : GoesSteps second) (goes_rest : GoesSteps rest) (conds : Conditions) (before : List FlatOp) (f : Scope) (i j k : ℕ)
      (typed : is_bool (type_in f e) ≡ true) (well_formed_a : AreWellFormed tables first (with_var f x BoolTy)) (well_formed_b : AreWellFormed tables second (with_var f x BoolTy)) (well_formed : AreWellFormed tables rest (with_var f x BoolTy))
      (sees : Sees f before conds) (knows : Knows before conds) (is : x ≡ length (T before)) (run_a : RunsTo (length (T before) + 1) first i) (run_b : RunsTo i second j) (run : RunsTo j rest k) where
    abbrev inner : Scope
    inner = with_var f x BoolTy

    abbrev test : FlatOp
    test = under conds (Cond x e)

    abbrev before_a : List FlatOp
    before_a = before ++ test ∷ []

    abbrev a : List FlatOp
    a = flat first (inside conds x true)

    abbrev b : List FlatOp
    b = flat second (inside conds x false)

    goes_test : Goes before conds (test ∷ []) 1 inner
    goes_test = goes_one conds (Cond x e) before f inner typed (adds_one tables f inner (Cond x e) x BoolTy refl refl refl) sees knows (is, tt)

    knows_inside : (v : Bool) → Knows before_a (inside conds x v)
    knows_inside v = record {
      defined = λ y h. from_either (conds_use-inside y conds x v h) (λ k. defined-inside before_a conds x v y (defined-more before (test ∷ []) conds y (knows.defined y k)))
          (λ k. (length before, some-end (λ (op : FlatOp). (defined_variable op.kind ≡ Some y) × IsPrefixOf op.conds (inside conds x v)) before [] test (ap Some k, ((x, v) ∷ [], refl))));
      tests = tests-inside before_a conds x v (tests-more before (test ∷ []) conds knows.tests) (length before, some-end (λ (op : FlatOp). (t : Expr) × (op.kind ≡ Cond x t)) before [] test (e, refl));
    }

    goes_a : GoesOn before_a a i
    goes_a = goes_first (inside conds x true) before_a inner i well_formed_a (sees-inside inner before_a conds x true goes_test.sees) (knows_inside true) (subst (λ n. RunsTo n first i) (sym goes_test.count) run_a)

    goes_b : GoesOn (before_a ++ a) b j
    goes_b = goes_second (inside conds x false) (before_a ++ a) inner j well_formed_b (sees-inside inner (before_a ++ a) conds x false (sees-more inner before_a a conds goes_test.sees))
        (knows-more before_a a (inside conds x false) (knows_inside false)) (subst (λ n. RunsTo n second j) (sym goes_a.count) run_b)

    goes_both : GoesOn before (test ∷ (a ++ b)) j
    goes_both = goes_on before (test ∷ []) (a ++ b) j goes_test.fine (goes_on before_a a b j goes_a.fine goes_b)

    sees_rest : Sees inner (before ++ (test ∷ (a ++ b))) conds
    sees_rest = subst (λ l. Sees inner l conds) (append_assoc before (test ∷ []) (a ++ b)) (sees-more inner before_a (a ++ b) conds goes_test.sees)

    goes_branch : GoesOn before (flat (Branch x e first second rest) conds) k
    goes_branch = goes_on before (test ∷ (a ++ b)) (flat rest conds) k goes_both.fine
        (goes_rest conds (before ++ (test ∷ (a ++ b))) inner k well_formed sees_rest (knows-more before (test ∷ (a ++ b)) conds knows) (subst (λ n. RunsTo n rest k) (sym goes_both.count) run))

  goes_steps : (steps : UnrolledSteps) → GoesSteps steps
  goes_steps End conds before f k well_formed sees knows run = record { fine = tt; count = ap (λ l. length (T l)) (append-nil before) ∙ run }
  goes_steps (Op kind rest) conds before f k well_formed sees knows run = goes_op kind rest (goes_steps rest) conds before f k well_formed sees knows run
  goes_steps (Branch x e first second rest) conds before f k (typed, in_first, in_second, in_rest) sees knows (is, i, j, run_a, run_b, run) =
      goes_branch x e first second rest (goes_steps first) (goes_steps second) (goes_steps rest) conds before f i j k typed in_first in_second in_rest sees knows is run_a run_b run

  -- ---- all operations

  -- an operation stands after those before it, and is fine there
  record Stands (before ops : List FlatOp) (j : ℕ) (op : FlatOp) : Type 0 where
    mid : List FlatOp
    back : List FlatOp
    parts : ops ≡ mid ++ op ∷ back
    offset : length mid ≡ j
    fine : IsFine (before ++ mid) op

  stands : (before ops : List FlatOp) → FineFrom before ops → (j : ℕ) (op : FlatOp) → slice_get ops j ≡ Some op → Stands before ops j op
  stands before [] fine j op is = absurd cc
  stands before (o ∷ ops) fine zero op is =
      let same : o ≡ op = cc in
      record { mid = []; back = ops; parts = ap (λ p. p ∷ ops) same; offset = refl; fine = subst (λ (p : FlatOp × List FlatOp). IsFine p.1 p.0) (λ i. (same i, sym (append-nil before) i)) fine.0 }
  stands before (o ∷ ops) fine (suc j) op is =
      let rest = stands (before ++ o ∷ []) ops fine.1 j op is in
      record { mid = o ∷ rest.mid; back = rest.back; parts = ap (λ l. o ∷ l) rest.parts; offset = ap suc rest.offset; fine = subst (λ l. IsFine l op) (append_assoc before (o ∷ []) rest.mid) rest.fine }

-- ---- numbers

lowest : (ops : List FlatOp) (n i x : ℕ) → RunsOn n (defined_in ops) → Defines ops i x → n ≤ x
lowest [] n i x run h = absurd h
lowest (op ∷ ops) n zero x run h = go (defined_variable op.kind) run h
  where
    go : (o : Option ℕ) → RunsOn n (variable_list o ++ defined_in ops) → o ≡ Some x → n ≤ x
    go None r is = absurd cc
    go (Some y) r is = let same : y ≡ x = cc in omega (arith, r.0, same)
lowest (op ∷ ops) n (suc i) x run h = go (defined_variable op.kind) run (λ m r. lowest ops m i x r h)
  where
    go : (o : Option ℕ) → RunsOn n (variable_list o ++ defined_in ops) → ((m : ℕ) → RunsOn m (defined_in ops) → m ≤ x) → n ≤ x
    go None r low = low n r
    go (Some y) r low = omega (arith, low (n + 1) r.1)

defined_once : (ops : List FlatOp) (n i j x : ℕ) → RunsOn n (defined_in ops) → Defines ops i x → Defines ops j x → i ≡ j
defined_once [] n i j x run h g = absurd h
defined_once (op ∷ ops) n zero zero x run h g = refl
defined_once (op ∷ ops) n zero (suc j) x run h g = absurd (go (defined_variable op.kind) run h (λ m r. lowest ops m j x r g))
  where
    go : (o : Option ℕ) → RunsOn n (variable_list o ++ defined_in ops) → o ≡ Some x → ((m : ℕ) → RunsOn m (defined_in ops) → m ≤ x) → ⊥
    go None r is low = cc
    go (Some y) r is low = let same : y ≡ x = cc in omega (arith, r.0, same, low (n + 1) r.1)
defined_once (op ∷ ops) n (suc i) zero x run h g = absurd (go (defined_variable op.kind) run g (λ m r. lowest ops m i x r h))
  where
    go : (o : Option ℕ) → RunsOn n (variable_list o ++ defined_in ops) → o ≡ Some x → ((m : ℕ) → RunsOn m (defined_in ops) → m ≤ x) → ⊥
    go None r is low = cc
    go (Some y) r is low = let same : y ≡ x = cc in omega (arith, r.0, same, low (n + 1) r.1)
defined_once (op ∷ ops) n (suc i) (suc j) x run h g = ap suc (go (defined_variable op.kind) run (λ m r. defined_once ops m i j x r h g))
  where
    go : (o : Option ℕ) → RunsOn n (variable_list o ++ defined_in ops) → ((m : ℕ) → RunsOn m (defined_in ops) → i ≡ j) → i ≡ j
    go None r one = one n r
    go (Some y) r one = one (n + 1) r.1

defined_somewhere : (ops : List FlatOp) (n x : ℕ) → RunsOn n (defined_in ops) → n ≤ x → x < n + length (defined_in ops) → (i : ℕ) × Defines ops i x
defined_somewhere [] n x run low high = let no_way : ⊥ = omega arith in absurd no_way
defined_somewhere (op ∷ ops) n x run low high = go (defined_variable op.kind) refl run high (λ m r l h. defined_somewhere ops m x r l h)
  where
    go : (o : Option ℕ) → defined_variable op.kind ≡ o → RunsOn n (variable_list o ++ defined_in ops) → x < n + length (variable_list o ++ defined_in ops)
        → ((m : ℕ) → RunsOn m (defined_in ops) → m ≤ x → x < m + length (defined_in ops) → (i : ℕ) × Defines ops i x) → (i : ℕ) × Defines (op ∷ ops) i x
    go None is r h rest = let p = rest n r low h in (suc p.0, p.1)
    go (Some y) is r h rest = here (x == n) refl
      where
        here : (b : Bool) → (x == n) ≡ b → (i : ℕ) × Defines (op ∷ ops) i x
        here true e = (0, is ∙ ap Some (r.0 ∙ sym (equal x n e)))
        here false e = let p = rest (n + 1) r.1 (grind (arith, nat_tests)) (omega (arith, h)) in (suc p.0, p.1)

-- ---- the program

module _ (tables : List Table) (proc : Proc) (proper : IsProc tables proc) (few : operations proc.body ≤ MAX_OPS) where
  abbrev params : List Ty
  params = types proc.params

  abbrev ops : List FlatOp
  ops = flat_form proc

  abbrev vars : List Ty
  vars = types_after params ops

  same_params : length proc.params ≡ length params
  same_params = sym (length-map proc.params (λ column. column.ty))

  abbrev end : ℕ
  end = (all_after (map unrolling proc.body) (beginning proc)).next

  run : RunsTo (length params) (unrolled proc) end
  run = subst (λ n. RunsTo n (unrolled proc) end) same_params (numbered-unrolled proc)

  run_ops : RunsOn (length params) (defined_in ops)
  run_ops = (runs_to-defined (unrolled proc) [] (length params) end run).0

  last : (g : Scope) × (scope_after_all tables proc.body (scope_of proc.params) ≡ Some g)
  last = there_is tables params (scope_after_all tables proc.body (scope_of proc.params)) proper.well_formed

  visible : (x : ℕ) (ty : Ty) → scope_of proc.params x ≡ Some ty → x < length proc.params
  visible x ty h = omega (arith, slice_get_within params x ty h, same_params)

  steps_well_formed : AreWellFormed tables (unrolled proc) (scope_of proc.params)
  steps_well_formed = all_steady tables proc.body (length proc.params) (scope_of proc.params) last.0 (runs_on-proc tables proc proper) visible last.1 (beginning proc) (scope_of proc.params)
      (typed-beginning (scope_of proc.params) proc visible)

  all : GoesOn tables params [] ops end
  all = goes_steps tables params (unrolled proc) [] [] (scope_of proc.params) end steps_well_formed (λ x ty h. (h, inl (slice_get_within params x ty h))) (record { defined = λ x h. absurd cc; tests = tt }) run

  at : (j : ℕ) (op : FlatOp) → slice_get ops j ≡ Some op → Stands tables params [] ops j op
  at j op is = stands tables params [] ops all.fine j op is

  -- the types so far are the first ones of all
  so_far : (j : ℕ) (op : FlatOp) (is : slice_get ops j ≡ Some op) → IsPrefixOf (types_after params (at j op is).mid) vars
  so_far j op is = let s = at j op is in
      subst (λ l. IsPrefixOf (types_after params s.mid) (types_after params l)) (sym s.parts) (T-prefix tables params s.mid (op ∷ s.back))

  given_at : (i x : ℕ) (op : FlatOp) → slice_get ops i ≡ Some op → defined_variable op.kind ≡ Some x → IsSomeAnd (slice_get vars x) (λ ty. given_type (scope_in vars) op.kind ≡ Some ty)
  given_at i x op is defines = go (given_type (scope_in before) op.kind) refl (gives_there (shapes tables) (scope_in before) op.kind s.fine.typed)
    where
      s : Stands tables params [] ops i op
      s = at i op is

      before : List Ty
      before = types_after params s.mid

      go : (p : Option Ty) → given_type (scope_in before) op.kind ≡ p → SameThere (shapes tables) (defined_variable op.kind) p → IsSomeAnd (slice_get vars x) (λ ty. given_type (scope_in vars) op.kind ≡ Some ty)
      go None gives there = absurd (subst (λ o. SameThere (shapes tables) o None) defines there)
      go (Some ty) gives there = subst (λ (o : Option Ty). IsSomeAnd o (λ t. given_type (scope_in vars) op.kind ≡ Some t)) (sym found)
          (given-within tables params (scope_in before) (scope_in vars) (within-prefix before vars (so_far i op is)) op.kind ty gives)
        where
          with_it : types_after params (s.mid ++ op ∷ []) ≡ before ++ ty ∷ []
          with_it = T-one tables params s.mid op ∙ ap (with_type before) gives

          prefix : IsPrefixOf (types_after params (s.mid ++ op ∷ [])) vars
          prefix = subst (λ l. IsPrefixOf (types_after params (s.mid ++ op ∷ [])) (types_after params l)) (append_assoc s.mid (op ∷ []) s.back ∙ sym s.parts) (T-prefix tables params (s.mid ++ op ∷ []) s.back)

          found : slice_get vars x ≡ Some ty
          found = within-prefix (types_after params (s.mid ++ op ∷ [])) vars prefix x ty
              (ap (λ l. slice_get l x) with_it ∙ ap (slice_get (before ++ ty ∷ [])) (s.fine.number x defines) ∙ at-end before [] ty)

  used_at : (j x : ℕ) (op : FlatOp) → slice_get ops j ≡ Some op → op_uses x op ≡ true → (x < length params) ⊎ IsDefinedBefore ops j op x
  used_at j x op is uses = let s = at j op is in from_either (s.fine.used x uses) (λ lt. inl lt) (λ d. inr (
    d.0,
    omega (arith, some-within (λ (o : FlatOp). (defined_variable o.kind ≡ Some x) × IsPrefixOf o.conds op.conds) s.mid d.0 d.1, s.offset),
    subst (λ (l : List FlatOp). IsSomeAnd (slice_get l d.0) (λ o. (defined_variable o.kind ≡ Some x) × IsPrefixOf o.conds op.conds)) (sym s.parts) (some-prefix (λ (o : FlatOp). (defined_variable o.kind ≡ Some x) × IsPrefixOf o.conds op.conds) s.mid (op ∷ s.back) d.0 d.1),
  ))

  condition_at : (i : ℕ) (op : FlatOp) (c : ℕ × Bool) → slice_get ops i ≡ Some op → Contains op.conds c → IsCondition ops c.0
  condition_at i op c is has = let s = at i op is in
      subst (λ (l : List FlatOp). IsCondition l c.0) (sym s.parts) (test-more tables params s.mid (op ∷ s.back) c.0 (of-contained (λ (d : ℕ × Bool). IsCondition s.mid d.0) op.conds c s.fine.tests has))

  pub well_formed_program : IsWellFormedProgram (shapes tables) (program_of proc)
  well_formed_program = record {
    few = omega (arith, few, length-flat_form proc);
    params = prefix-types_after ops params;
    defined = λ x low high. defined_somewhere ops (length params) x run_ops low (omega (arith, high, all.count, (runs_to-defined (unrolled proc) [] (length params) end run).1));
    once = λ i j x. defined_once ops (length params) i j x run_ops;
    after = λ i x. lowest ops (length params) i x run_ops;
    given = given_at;
    used = used_at;
    conditions = condition_at;
    typed = λ i op is. well_typed-within (shapes tables) (scope_in (types_after params (at i op is).mid)) (scope_in vars) (within-prefix (types_after params (at i op is).mid) vars (so_far i op is)) op.kind (at i op is).fine.typed;
  }

-- the programs of a catalogue's procedures
pub well_formed_programs : (tables : List Table) (procs : List Proc) → All (IsProc tables) procs → HasFewOperations procs → AreWellFormedPrograms (shapes tables) (map program_of procs)
well_formed_programs tables procs all within n program is = go (slice_get procs n) refl (sym (slice_get-map program_of procs n) ∙ is)
  where
    go : (o : Option Proc) → slice_get procs n ≡ o → option_map program_of o ≡ Some program → IsWellFormedProgram (shapes tables) program
    go None found h = absurd cc
    go (Some proc) found h =
        let inside_it : n < length procs = slice_get_within procs n proc found in
        let one : get_or procs n proc ≡ proc = let both_ : Some (get_or procs n proc) ≡ Some proc = sym (slice_get-get_or procs n proc inside_it) ∙ found in cc in
        let proper : IsProc tables proc = subst (IsProc tables) one (all n proc inside_it) in
        let few : operations proc.body ≤ MAX_OPS = subst (λ (p : Proc). operations p.body ≤ MAX_OPS) one (within.each n proc inside_it) in
        let same : program_of proc ≡ program = cc in
        subst (IsWellFormedProgram (shapes tables)) same (well_formed_program tables proc proper few)
