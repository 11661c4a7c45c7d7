-- The steps of well-formed statements are well-formed.
use Rattle.std.proofs.Common.{◌≡◌, ◌<◌, ℕ, ◌+◌, ◌==◌, ◌&&◌, ◌||◌, ℤ, Bool, true, false, List, [], ◌∷◌, length, map, Option, Some, None, is_some, refl, sym, ap, subst, ◌∙◌, arith}
use Rattle.std.specs.Prelude.{if◌then◌else◌}
use Rattle.std.specs.List.{AllByRecursion}
use Rattle.std.specs.Option.{option_map, option_and_then}
use Rattle.std.proofs.lemmas.Bool.Decides.{nat_tests}
use Rattle.std.proofs.lemmas.List.{length-map}
use Rattle.pac_value.specs.declared.values.Ty.{Ty}
use Rattle.pac_value.specs.declared.values.Ty.TheVariants.{Int as IntTy, Bool as BoolTy}
use Rattle.pac_value.specs.declared.values.Value.TheVariants.{Int}
use Rattle.pac_value.specs.declared.expr.Expr.{Expr, Lit, Var}
use Rattle.pac_value.specs.Expressions.{type_in, type_step, operator_type, negated_type}
use Rattle.pac_value.specs.Scopes.{Scope, with_var, is_bool, is_wanted, are_wanted, is_width}
use Rattle.pac_value.specs.Values.{type_of}
use Rattle.pac_value.proofs.ByForms.{by_forms, fold-Lit, fold-Var, fold-Bin, fold-Not}
use Rattle.pac_ops.specs.declared.program.OpKind.{OpKind}
use Rattle.pac_ops.specs.declared.program.OpKind.TheVariants as kind
use Rattle.pac_ops.specs.Uses.{defined_variable}
use Rattle.pac_types.specs.declared.procedure.Proc.{Proc}
use Rattle.pac_types.specs.declared.statement.Stmt.{Stmt}
use Rattle.pac_types.specs.declared.table.Table.{Table}
use Rattle.pac_types.specs.Unrolled.{UnrolledSteps, End, Op, Branch, turn_numbers, renamed, renamed_step, renamed_kind, Point, with_next, with_turn, with_defined, Unrolling, all_after, in_steps, after_turns, in_turns, unroll_step, unrolling, beginning}
use Rattle.pac_types.specs.Variables.{variables_step, stmt_variables, defined_variables}
use Rattle.pac_types.specs.WellFormed.{key_type, column_type, column_types, if_so, without, Check, any_defines, in_order, check_step, check}
use Rattle.pac_types.proofs.PartLemmas.{equal}
use Rattle.pac_types.proofs.RunsOnLemmas.{RunsOn, runs_on-parts, variable_list, variables-one, all_names-kept, turn_names-kept}
use Rattle.pac_types.proofs.ScopeLemmas.{Within, TypeWithin, both_within, one_within, type_in-within, is_wanted-within, is_bool-within}
use Rattle.pac_types.proofs.StmtShapes.{is_test, IsOne, IsConditional, IsLoop, all_by_shape}
use Rattle.pac_types.proofs.UnrolledLemmas.{unrolling-one, all_next-grows}
use Rattle.pac_flat.proofs.KindChecks.{single_check, check-one}
use Rattle.pac_flat.proofs.TypeLemmas.{both, so_is}

-- what is visible in the text has its type where it stands for what it does, and all variables are before the next
pub record Typed (f : Scope) (p : Point) (h : Scope) : Type 0 where
  pub types : (y : ℕ) (ty : Ty) → f y ≡ Some ty → type_in h (p.names y) ≡ Some ty
  pub below : (z : ℕ) (ty : Ty) → h z ≡ Some ty → z < p.next

-- what is visible is before the number k
abbrev pub Before : ℕ → Scope → Type 0
Before k f = (y : ℕ) (ty : Ty) → f y ≡ Some ty → y < k

itself : (n : ℕ) → (n == n) ≡ true
itself n = grind (arith, nat_tests)

pub before-var : (k x : ℕ) (f : Scope) (ty : Ty) → x ≡ k → Before k f → Before (k + 1) (with_var f x ty)
before-var k x f ty is before y t h = go (y == x) refl h
  where
    go : (b : Bool) → (y == x) ≡ b → (if b then Some ty else f y) ≡ Some t → y < k + 1
    go true e h = let same : y ≡ x = equal y x e in omega (arith, same, is)
    go false e h = omega (arith, before y t h)

pub before-less : (k : ℕ) (f g : Scope) → Within f g → Before k g → Before k f
before-less k f g within before y t h = before y t (within y t h)

pub without-less : (some : ℕ → Bool) (f : Scope) → Within (without some f) f
without-less some f x ty is = go (some x) is
  where
    go : (b : Bool) → (if b then None else f x) ≡ Some ty → f x ≡ Some ty
    go true h = absurd cc
    go false h = h

-- a new variable changes none of the others
fresh : (h : Scope) (n : ℕ) (ty : Ty) → ((z : ℕ) (t : Ty) → h z ≡ Some t → z < n) → Within h (with_var h n ty)
fresh h n ty below z t is = ap (λ b. if b then Some ty else h z) (other (below z t is)) ∙ is
  where
    other : z < n → (z == n) ≡ false
    other lt = grind (arith, nat_tests)

-- parameters stand for themselves
pub typed-beginning : (f : Scope) (proc : Proc) → Before (length proc.params) f → Typed f (beginning proc) f
typed-beginning f proc before = record { types = λ y ty is. fold-Var (Option Ty) (type_step f) y ∙ is; below = before }

typed-next : (f : Scope) (p : Point) (h : Scope) (x : ℕ) (ty : Ty) → Typed f p h → Typed (with_var f x ty) (with_next x p) (with_var h p.next ty)
typed-next f p h x ty typed = record {
  types = λ y t is. named y t (y == x) is;
  below = λ z t is. under z t (z == p.next) refl is;
}
  where
    own : Scope
    own = with_var h p.next ty

    named : (y : ℕ) (t : Ty) (b : Bool) → (if b then Some ty else f y) ≡ Some t → type_in own (if b then Var p.next else p.names y) ≡ Some t
    named y t true is = fold-Var (Option Ty) (type_step own) p.next ∙ ap (λ b. if b then Some ty else h p.next) (itself p.next) ∙ is
    named y t false is = type_in-within h own (fresh h p.next ty typed.below) (p.names y) t (typed.types y t is)

    under : (z : ℕ) (t : Ty) (b : Bool) → (z == p.next) ≡ b → (if b then Some ty else h z) ≡ Some t → z < p.next + 1
    under z t true e is = let same : z ≡ p.next = equal z p.next e in omega (arith, same)
    under z t false e is = omega (arith, typed.below z t is)

typed-turn : (f : Scope) (p : Point) (h : Scope) (x : ℕ) (i : ℤ) → Typed f p h → Typed (with_var f x IntTy) (with_turn x i p) h
typed-turn f p h x i typed = record { types = λ y t is. named y t (y == x) is; below = typed.below }
  where
    named : (y : ℕ) (t : Ty) (b : Bool) → (if b then Some IntTy else f y) ≡ Some t → type_in h (if b then Lit (Int i) else p.names y) ≡ Some t
    named y t true is = fold-Lit (Option Ty) (type_step h) (Int i) ∙ is
    named y t false is = typed.types y t is

-- the same variables stand for the same later, where more are there
typed-later : (f f' : Scope) (p q : Point) (h h' : Scope) (k : ℕ) → Typed f p h → Within f' f → Before k f' → ((y : ℕ) → y < k → q.names y ≡ p.names y) → Within h h' → ((z : ℕ) (ty : Ty) → h' z ≡ Some ty → z < q.next) → Typed f' q h'
typed-later f f' p q h h' k typed less before same more below = record {
  types = λ y t is. ap (type_in h') (same y (before y t is)) ∙ type_in-within h h' more (p.names y) t (typed.types y t (less y t is));
  below = below;
}

-- ---- expressions and operations

module _ (f : Scope) (p : Point) (h : Scope) (typed : Typed f p h) where
  renamed-type : (e : Expr) → TypeWithin (type_in f e) (type_in h (renamed p.names e))
  renamed-type = by_forms (λ e. TypeWithin (type_in f e) (type_in h (renamed p.names e)))
      (λ v ty is. ap (type_in h) (fold-Lit Expr (renamed_step p.names) v) ∙ fold-Lit (Option Ty) (type_step h) v ∙ sym (fold-Lit (Option Ty) (type_step f) v) ∙ is)
      (λ x ty is. ap (type_in h) (fold-Var Expr (renamed_step p.names) x) ∙ typed.types x ty (sym (fold-Var (Option Ty) (type_step f) x) ∙ is))
      (λ op l r a b ty is. ap (type_in h) (fold-Bin Expr (renamed_step p.names) op l r) ∙ fold-Bin (Option Ty) (type_step h) op (renamed p.names l) (renamed p.names r)
      ∙ both_within (operator_type op) (type_in f l) (type_in h (renamed p.names l)) (type_in f r) (type_in h (renamed p.names r)) a b ty (sym (fold-Bin (Option Ty) (type_step f) op l r) ∙ is))
      (λ e a ty is. ap (type_in h) (fold-Not Expr (renamed_step p.names) e) ∙ fold-Not (Option Ty) (type_step h) (renamed p.names e)
      ∙ one_within negated_type (type_in f e) (type_in h (renamed p.names e)) a ty (sym (fold-Not (Option Ty) (type_step f) e) ∙ is))

  wanted : (e : Expr) (w : Option Ty) → is_wanted (type_in f e) w ≡ true → is_wanted (type_in h (renamed p.names e)) w ≡ true
  wanted e w = is_wanted-within (type_in f e) (type_in h (renamed p.names e)) w (renamed-type e)

  all_wanted : (es : List Expr) (tys : List Ty) → are_wanted (map (type_in f) es) tys ≡ true → are_wanted (map (type_in h) (map (renamed p.names) es)) tys ≡ true
  all_wanted [] tys is = is
  all_wanted (e ∷ es) [] is = absurd cc
  all_wanted (e ∷ es) (ty ∷ tys) is =
      let q = both (is_wanted (type_in f e) (Some ty)) (are_wanted (map (type_in f) es) tys) is in
      and_so (wanted e (Some ty) q.0) (all_wanted es tys q.1)
    where
      and_so : {a b : Bool} → a ≡ true → b ≡ true → (a && b) ≡ true
      and_so {a} {b} x y = ap (λ c. c && b) x ∙ y

and_so : {a b : Bool} → a ≡ true → b ≡ true → (a && b) ≡ true
and_so {a} {b} x y = ap (λ c. c && b) x ∙ y

so_ok : (ok : Bool) (f : Scope) → ok ≡ true → if_so ok f ≡ Some f
so_ok ok f is = ap (λ b. if_so b f) is

module _ (tables : List Table) where
  -- a well-formed operation is one where its variables stand for something
  record Renamed (kind : OpKind) (p : Point) (h g : Scope) : Type 0 where
    scope : Scope
    after : (single_check tables (renamed_kind p kind)).after h ≡ Some scope
    typed : Typed g (with_defined (defined_variable kind) p) scope
    more : Within h scope

  module _ (f : Scope) (p : Point) (h : Scope) (typed : Typed f p h) where
    defining : (kind : OpKind) (x : ℕ) (ty : Ty) (g : Scope) → with_defined (defined_variable kind) p ≡ with_next x p → with_var f x ty ≡ g → (single_check tables (renamed_kind p kind)).after h ≡ Some (with_var h p.next ty) → Renamed kind p h g
    defining kind x ty g next same is = record {
      scope = with_var h p.next ty;
      after = is;
      typed = subst (λ (q : Point × Scope). Typed q.1 q.0 (with_var h p.next ty)) (λ i. (sym next i, same i)) (typed-next f p h x ty typed);
      more = fresh h p.next ty typed.below;
    }

    plain : (kind : OpKind) (g : Scope) → with_defined (defined_variable kind) p ≡ p → f ≡ g → (single_check tables (renamed_kind p kind)).after h ≡ Some h → Renamed kind p h g
    plain kind g next same is = record {
      scope = h;
      after = is;
      typed = subst (λ (q : Point × Scope). Typed q.1 q.0 h) (λ i. (sym next i, same i)) typed;
      more = λ z t k. k;
    }

    renamed-kind : (kind : OpKind) (g : Scope) → (single_check tables kind).after f ≡ Some g → Renamed kind p h g
    renamed-kind (kind.Let x e) g is = go (type_in f e) refl is
      where
        go : (o : Option Ty) → type_in f e ≡ o → option_map (with_var f x) o ≡ Some g → Renamed (kind.Let x e) p h g
        go None found is = absurd cc
        go (Some ty) found is = let same : with_var f x ty ≡ g = cc in defining (kind.Let x e) x ty g refl same (ap (option_map (with_var h p.next)) (renamed-type f p h typed e ty found))
    renamed-kind (kind.Cond x e) g is = absurd cc
    renamed-kind (kind.Read x t k c d) g is =
        let a = so_is tables (is_wanted (type_in f k) (key_type tables t) && is_wanted (Some (type_of d)) (column_type tables t c)) (with_var f x (type_of d)) g is in
        let b = both (is_wanted (type_in f k) (key_type tables t)) (is_wanted (Some (type_of d)) (column_type tables t c)) a.0 in
        defining (kind.Read x t k c d) x (type_of d) g refl a.1 (so_ok _ _ (and_so (wanted f p h typed k (key_type tables t) b.0) b.1))
    renamed-kind (kind.Has x t k) g is =
        let a = so_is tables (is_wanted (type_in f k) (key_type tables t)) (with_var f x BoolTy) g is in
        defining (kind.Has x t k) x BoolTy g refl a.1 (so_ok _ _ (wanted f p h typed k (key_type tables t) a.0))
    renamed-kind (kind.Put t k es) g is =
        let a = so_is tables (is_wanted (type_in f k) (key_type tables t) && is_width (length es) && are_wanted (map (type_in f) es) (column_types tables t)) f g is in
        let b = both (is_wanted (type_in f k) (key_type tables t) && is_width (length es)) (are_wanted (map (type_in f) es) (column_types tables t)) a.0 in
        let c = both (is_wanted (type_in f k) (key_type tables t)) (is_width (length es)) b.0 in
        plain (kind.Put t k es) g refl a.1 (so_ok _ _ (and_so (and_so (wanted f p h typed k (key_type tables t) c.0) (ap is_width (length-map es (renamed p.names)) ∙ c.1)) (all_wanted f p h typed es (column_types tables t) b.1)))
    renamed-kind (kind.SetCol t k c e) g is =
        let a = so_is tables (is_wanted (type_in f k) (key_type tables t) && is_wanted (type_in f e) (column_type tables t c)) f g is in
        let b = both (is_wanted (type_in f k) (key_type tables t)) (is_wanted (type_in f e) (column_type tables t c)) a.0 in
        plain (kind.SetCol t k c e) g refl a.1 (so_ok _ _ (and_so (wanted f p h typed k (key_type tables t) b.0) (wanted f p h typed e (column_type tables t c) b.1)))
    renamed-kind (kind.Delete t k) g is =
        let a = so_is tables (is_wanted (type_in f k) (key_type tables t)) f g is in
        plain (kind.Delete t k) g refl a.1 (so_ok _ _ (wanted f p h typed k (key_type tables t) a.0))
    renamed-kind (kind.AbortIf e) g is =
        let a = so_is tables (is_bool (type_in f e)) f g is in
        plain (kind.AbortIf e) g refl a.1 (so_ok _ _ (is_bool-within (type_in f e) (type_in h (renamed p.names e)) (renamed-type f p h typed e) a.0))

  -- ---- steps

  -- steps are well-formed where the variables have these types
  abbrev pub AreWellFormed : UnrolledSteps → Scope → Type 0
  AreWellFormed End h = Unit {0}
  AreWellFormed (Op kind rest) h = (g : Scope) × ((single_check tables kind).after h ≡ Some g) × AreWellFormed rest g
  AreWellFormed (Branch x e first second rest) h = (is_bool (type_in h e) ≡ true) × AreWellFormed first (with_var h x BoolTy) × AreWellFormed second (with_var h x BoolTy) × AreWellFormed rest (with_var h x BoolTy)

  -- the steps of what is well-formed are, where those after it are
  abbrev Steady : Unrolling → List ℕ → (Scope → Option Scope) → Type 0
  Steady u xs after = (k : ℕ) (f g : Scope) → RunsOn k xs → Before k f → after f ≡ Some g → (p : Point) (h : Scope) → Typed f p h → (rest : UnrolledSteps)
      → ((h' : Scope) → Within h h' → Typed g (u.after p) h' → Before (k + length xs) g → AreWellFormed rest h') → AreWellFormed (u.steps p rest) h

  abbrev SteadyStmt : Stmt → Type 0
  SteadyStmt s = Steady (unrolling s) (stmt_variables s) ((check tables s).after)

  within-trans : (f g h : Scope) → Within f g → Within g h → Within f h
  within-trans f g h a b x ty is = b x ty (a x ty is)

  then_is : (cs : List Check) (o : Option Scope) (g : Scope) → option_and_then (in_order cs) o ≡ Some g → (h : Scope) × (o ≡ Some h) × (in_order cs h ≡ Some g)
  then_is cs None g is = absurd cc
  then_is cs (Some h) g is = (h, refl, is)

  there_is : (o : Option Scope) → is_some o ≡ true → (h : Scope) × (o ≡ Some h)
  there_is None e = absurd cc
  there_is (Some h) e = (h, refl)

  steady_all : (ss : List Stmt) → AllByRecursion SteadyStmt ss → (k : ℕ) (f g : Scope) → RunsOn k (defined_variables ss) → Before k f → in_order (map (check tables) ss) f ≡ Some g → (p : Point) (h : Scope) → Typed f p h → (rest : UnrolledSteps)
      → ((h' : Scope) → Within h h' → Typed g (all_after (map unrolling ss) p) h' → AreWellFormed rest h') → AreWellFormed (in_steps (map unrolling ss) p rest) h
  steady_all [] all k f g run before is p h typed rest later = let same : f ≡ g = cc in later h (λ x ty e. e) (subst (λ (z : Scope). Typed z p h) same typed)
  steady_all (s ∷ ss) all k f g run before is p h typed rest later =
      let parts = runs_on-parts k (stmt_variables s) (defined_variables ss) run in
      let mid = then_is (map (check tables) ss) ((check tables s).after f) g is in
      all.0 k f mid.0 parts.0 before mid.1 p h typed (in_steps (map unrolling ss) ((unrolling s).after p) rest) (λ h' more t b.
      steady_all ss all.1 (k + length (stmt_variables s)) mid.0 g parts.1 b mid.2 ((unrolling s).after p) h' t rest (λ h'' more' t'. later h'' (within-trans h h' h'' more more') t'))

  before-plain : (k : ℕ) (f g : Scope) → f ≡ g → Before k f → Before (k + 0) g
  before-plain k f g same before y ty is = omega (arith, before y ty (ap (λ (s : Scope). s y) same ∙ is))

  before-defined : (k : ℕ) (kind : OpKind) (f g : Scope) → RunsOn k (variable_list (defined_variable kind)) → Before k f → (single_check tables kind).after f ≡ Some g → Before (k + length (variable_list (defined_variable kind))) g
  before-defined k (kind.Let x e) f g run before is = go (type_in f e) is
    where
      go : (o : Option Ty) → option_map (with_var f x) o ≡ Some g → Before (k + 1) g
      go None is = absurd cc
      go (Some ty) is = let same : with_var f x ty ≡ g = cc in subst (Before (k + 1)) same (before-var k x f ty run.0 before)
  before-defined k (kind.Cond x e) f g run before is = absurd cc
  before-defined k (kind.Read x t key c d) f g run before is =
      let a = so_is tables (is_wanted (type_in f key) (key_type tables t) && is_wanted (Some (type_of d)) (column_type tables t c)) (with_var f x (type_of d)) g is in
      subst (Before (k + 1)) a.1 (before-var k x f (type_of d) run.0 before)
  before-defined k (kind.Has x t key) f g run before is =
      let a = so_is tables (is_wanted (type_in f key) (key_type tables t)) (with_var f x BoolTy) g is in
      subst (Before (k + 1)) a.1 (before-var k x f BoolTy run.0 before)
  before-defined k (kind.Put t key es) f g run before is =
      let a = so_is tables (is_wanted (type_in f key) (key_type tables t) && is_width (length es) && are_wanted (map (type_in f) es) (column_types tables t)) f g is in before-plain k f g a.1 before
  before-defined k (kind.SetCol t key c e) f g run before is =
      let a = so_is tables (is_wanted (type_in f key) (key_type tables t) && is_wanted (type_in f e) (column_type tables t c)) f g is in before-plain k f g a.1 before
  before-defined k (kind.Delete t key) f g run before is = let a = so_is tables (is_wanted (type_in f key) (key_type tables t)) f g is in before-plain k f g a.1 before
  before-defined k (kind.AbortIf e) f g run before is = let a = so_is tables (is_bool (type_in f e)) f g is in before-plain k f g a.1 before

  steady-one : (s : Stmt) (kind : OpKind) → is_test kind ≡ false → IsOne s kind → SteadyStmt s
  steady-one s kind single is = subst (λ (q : Unrolling × List ℕ × Check). Steady q.0 q.1 (q.2).after) (λ i. (sym (unrolling-one s kind single is) i, sym (variables-one s kind single is) i, sym (check-one tables s kind single is) i))
      (λ k f g run before ok p h typed rest later.
      let r = renamed-kind f p h typed kind g ok in
      (r.scope, r.after, later r.scope r.more r.typed (before-defined k kind f g run before ok)))

  steady-conditional : (s : Stmt) (x : ℕ) (e : Expr) (first second : List Stmt) → IsConditional s x e first second → AllByRecursion SteadyStmt first → AllByRecursion SteadyStmt second → SteadyStmt s
  steady-conditional s x e first second is all others =
      subst (λ (q : Unrolling × List ℕ × Check). Steady q.0 q.1 (q.2).after) (λ i. (sym (is Unrolling unroll_step) i, sym (is (List ℕ) variables_step) i, sym (is Check (check_step tables)) i))
      (λ k f g run before ok p h typed rest later.
      let inner = with_var f x BoolTy in
      let fa = in_order (map (check tables) first) inner in
      let fb = in_order (map (check tables) second) inner in
      let one = any_defines (map (check tables) first) in
      let two = any_defines (map (check tables) second) in
      let a = so_is tables (is_bool (type_in f e) && is_some fa && is_some fb) (without one (without two inner)) g ok in
      let b = both (is_bool (type_in f e) && is_some fa) (is_some fb) a.0 in
      let c = both (is_bool (type_in f e)) (is_some fa) b.0 in
      let ga = there_is fa c.1 in
      let gb = there_is fb b.1 in
      let own = with_var h p.next BoolTy in
      let point = with_next x p in
      let between = all_after (map unrolling first) point in
      let parts = runs_on-parts (k + 1) (defined_variables first) (defined_variables second) run.1 in
      let visible : Before (k + 1) inner = before-var k x f BoolTy run.0 before in
      let typed_a : Typed inner point own = typed-next f p h x BoolTy typed in
      let kept_a : (y : ℕ) → y < k + 1 → between.names y ≡ point.names y = all_names-kept first (k + 1) parts.0 point in
      let up_a = all_next-grows first point in
      let up_b = all_next-grows second between in
      let typed_b : Typed inner between own = typed-later inner inner point between own own (k + 1) typed_a (λ y t i. i) visible kept_a (λ y t i. i) (λ z t i. omega (arith, typed_a.below z t i, up_a.0)) in
      let less : Within g inner = subst (λ (z : Scope). Within z inner) a.1 (λ y t i. without-less two inner y t (without-less one (without two inner) y t i)) in
      let visible_g : Before (k + 1) g = before-less (k + 1) g inner less visible in
      let end = all_after (map unrolling second) between in
      let kept_b : (y : ℕ) → y < k + 1 → end.names y ≡ point.names y = λ y lt. all_names-kept second (k + 1 + length (defined_variables first)) parts.1 between y (omega (arith, lt)) ∙ kept_a y lt in (
        is_bool-within (type_in f e) (type_in h (renamed p.names e)) (renamed-type f p h typed e) c.0,
        steady_all first all (k + 1) inner ga.0 parts.0 visible ga.1 point own typed_a End (λ h' more t. tt),
        steady_all second others (k + 1 + length (defined_variables first)) inner gb.0 parts.1 (λ y t i. omega (arith, visible y t i)) gb.1 between own typed_b End (λ h' more t. tt),
        later own (fresh h p.next BoolTy typed.below) (typed-later inner g point end own own (k + 1) typed_a less visible_g kept_b (λ y t i. i) (λ z t i. omega (arith, typed_a.below z t i, up_a.0, up_b.0)))
            (λ y t i. omega (arith, visible_g y t i)),
      ))

  module _ (x k : ℕ) (at : x ≡ k) (body : List Stmt) (all : AllByRecursion SteadyStmt body) (run : RunsOn (k + 1) (defined_variables body)) (f g : Scope) (before : Before k f)
      (ok : in_order (map (check tables) body) (with_var f x IntTy) ≡ Some g) where
    steady_turns : (is : List ℤ) (p : Point) (h : Scope) → Typed f p h → (rest : UnrolledSteps)
        → ((h' : Scope) → Within h h' → Typed f (after_turns x (map unrolling body) is p) h' → AreWellFormed rest h') → AreWellFormed (in_turns x (map unrolling body) is p rest) h
    steady_turns [] p h typed rest later = later h (λ y t i. i) typed
    steady_turns (i ∷ is) p h typed rest later =
        let turn = with_turn x i p in
        let next = all_after (map unrolling body) turn in
        steady_all body all (k + 1) (with_var f x IntTy) g run (before-var k x f IntTy at before) ok turn h (typed-turn f p h x i typed) (in_turns x (map unrolling body) is next rest) (λ h' more t.
        let again : Typed f next h' = typed-later f f p next h h' k typed (λ y t i. i) before (turn_names-kept body x k at run i p) more t.below in
        steady_turns is next h' again rest (λ h'' more' t'. later h'' (within-trans h h' h'' more more') t'))

  -- neither the loop's variable nor one that the block defines is visible after it
  less_visible : (a b : Bool) (o : Option Ty) (ty : Ty) → (if a || b then None else o) ≡ Some ty → (if b then None else o) ≡ Some ty
  less_visible true b o ty h = absurd cc
  less_visible false b o ty h = h

  steady-loop : (s : Stmt) (x : ℕ) (from to : ℤ) (body : List Stmt) → IsLoop s x from to body → AllByRecursion SteadyStmt body → SteadyStmt s
  steady-loop s x from to body is all =
      subst (λ (q : Unrolling × List ℕ × Check). Steady q.0 q.1 (q.2).after) (λ i. (sym (is Unrolling unroll_step) i, sym (is (List ℕ) variables_step) i, sym (is Check (check_step tables)) i))
      (λ k f g run before ok p h typed rest later.
      let some = any_defines (map (check tables) body) in
      let outer = without some f in
      let inner = in_order (map (check tables) body) (with_var outer x IntTy) in
      let a = so_is tables (is_some inner) (without (λ y. y == x || some y) f) g ok in
      let found = there_is inner a.0 in
      let less : Within outer f = without-less some f in
      let visible : Before k outer = before-less k outer f less before in
      let typed_outer : Typed outer p h = typed-later f outer p p h h k typed less visible (λ y lt. refl) (λ y t i. i) typed.below in
      let shown : Within g outer = subst (λ (z : Scope). Within z outer) a.1 (λ y t i. less_visible (y == x) (some y) (f y) t i) in
      steady_turns x k run.0 body all run.1 outer found.0 visible found.1 (turn_numbers from to) p h typed_outer rest (λ h' more t.
      let end = after_turns x (map unrolling body) (turn_numbers from to) p in
      later h' more (typed-later outer g end end h' h' k t shown (before-less k g outer shown visible) (λ y lt. refl) (λ y u i. i) t.below) (λ y u i. omega (arith, visible y u (shown y u i)))))

  pub all_steady : (ss : List Stmt) (k : ℕ) (f g : Scope) → RunsOn k (defined_variables ss) → Before k f → in_order (map (check tables) ss) f ≡ Some g → (p : Point) (h : Scope) → Typed f p h → AreWellFormed (in_steps (map unrolling ss) p End) h
  all_steady ss k f g run before ok p h typed = steady_all ss (all_by_shape SteadyStmt steady-one steady-conditional steady-loop ss) k f g run before ok p h typed End (λ h' more t. tt)
