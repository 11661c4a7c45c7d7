-- What checking an expression says: its numbers and its type, or that it has no type.
use Rattle.std.proofs.Common.{◌≡◌, ◌<◌, ℕ, Bool, true, false, List, map, Option, Some, None, Result, Ok, Err, refl, sym, ap, subst, ◌∙◌}
use Rattle.std.specs.Prelude.{slice_get}
use Rattle.std.specs.Option.{option_map, option_and_then}
use Rattle.std.proofs.lemmas.Option.{slice_get-map}
use Rattle.pac_value.specs.declared.values.Ty.{Ty}
use Rattle.pac_value.specs.declared.values.Ty.TheVariants.{Int as IntTy, Text as TextTy, Bool as BoolTy}
use Rattle.pac_value.specs.declared.expr.BinOp.{BinOp}
use Rattle.pac_value.specs.declared.expr.BinOp.TheVariants.{Add, Sub, Mul, Div, Rem, Eq, Ne, Lt, Le, Gt, Ge, And, Or}
use Rattle.pac_value.specs.declared.expr.Expr.{Expr, Var, Bin, Not}
use Rattle.pac_value.specs.Expressions.{◌>>=◌, type_in, type_step, operator_type, arithmetic_type, equality_type, order_type, logic_type, negated_type}
use Rattle.pac_value.proofs.ByForms.{fold-Lit, fold-Var, fold-Bin, fold-Not}
use Rattle.pac_syntax.specs.declared.tree.ExprNode.{ExprNode}
use Rattle.pac_syntax.proofs.NodeForms as forms
use Rattle.pac_types.specs.declared.type_error.TypeFault.{TypeFault}
use Rattle.pac_types.specs.declared.checker.scope.Variable.{Variable}
use Rattle.pac_types.specs.declared.checker.expressions.Typed.{Typed}
use Rattle.pac_types.specs.Numbering.{number_of, Sight, number_at, resolved, resolve_step}
use Rattle.pac_value.specs.Scopes.{Scope, is_wanted, is_bool}
use Rattle.pac_types.specs.Faults.{same_ty, is_ordered, is_left}
use Rattle.pac_types.specs.Checking.{ScopeState, found_at, seen_at, taken, is_right, result_ty, operands, checked_expr, checked_step, checked_wanted, checked_test}
use Rattle.pac_syntax.proofs.NodeForms.{by_nodes}

-- ---- operators

-- a type where both tests hold
abbrev pub by_tests : Bool → Bool → Ty → Option Ty
by_tests true true ty = Some ty
by_tests true false ty = None
by_tests false right ty = None

arithmetic : (a b : Ty) → arithmetic_type a b ≡ by_tests (same_ty a IntTy) (same_ty b IntTy) IntTy
arithmetic IntTy IntTy = refl
arithmetic IntTy TextTy = refl
arithmetic IntTy BoolTy = refl
arithmetic TextTy IntTy = refl
arithmetic TextTy TextTy = refl
arithmetic TextTy BoolTy = refl
arithmetic BoolTy IntTy = refl
arithmetic BoolTy TextTy = refl
arithmetic BoolTy BoolTy = refl

equality : (a b : Ty) → equality_type a b ≡ by_tests true (same_ty b a) BoolTy
equality IntTy IntTy = refl
equality IntTy TextTy = refl
equality IntTy BoolTy = refl
equality TextTy IntTy = refl
equality TextTy TextTy = refl
equality TextTy BoolTy = refl
equality BoolTy IntTy = refl
equality BoolTy TextTy = refl
equality BoolTy BoolTy = refl

order : (a b : Ty) → order_type a b ≡ by_tests (is_ordered a) (same_ty b a) BoolTy
order IntTy IntTy = refl
order IntTy TextTy = refl
order IntTy BoolTy = refl
order TextTy IntTy = refl
order TextTy TextTy = refl
order TextTy BoolTy = refl
order BoolTy IntTy = refl
order BoolTy TextTy = refl
order BoolTy BoolTy = refl

logic : (a b : Ty) → logic_type a b ≡ by_tests (same_ty a BoolTy) (same_ty b BoolTy) BoolTy
logic IntTy IntTy = refl
logic IntTy TextTy = refl
logic IntTy BoolTy = refl
logic TextTy IntTy = refl
logic TextTy TextTy = refl
logic TextTy BoolTy = refl
logic BoolTy IntTy = refl
logic BoolTy TextTy = refl
logic BoolTy BoolTy = refl

-- an operator gives a type exactly where it takes both operands
pub operator : (op : BinOp) (a b : Ty) → operator_type op a b ≡ by_tests (is_left op a) (is_right op a b) (result_ty op)
operator Add a b = arithmetic a b
operator Sub a b = arithmetic a b
operator Mul a b = arithmetic a b
operator Div a b = arithmetic a b
operator Rem a b = arithmetic a b
operator Eq a b = equality a b
operator Ne a b = equality a b
operator Lt a b = order a b
operator Le a b = order a b
operator Gt a b = order a b
operator Ge a b = order a b
operator And a b = logic a b
operator Or a b = logic a b

pub no_left : (op : BinOp) (a : Ty) → is_left op a ≡ false → (b : Ty) → operator_type op a b ≡ None
no_left op a e b = operator op a b ∙ ap (λ t. by_tests t (is_right op a b) (result_ty op)) e

pub no_right : (op : BinOp) (a b : Ty) → is_left op a ≡ true → is_right op a b ≡ false → operator_type op a b ≡ None
no_right op a b l r = operator op a b ∙ ap (λ t. by_tests t (is_right op a b) (result_ty op)) l ∙ ap (λ t. by_tests true t (result_ty op)) r

pub both_taken : (op : BinOp) (a b : Ty) → is_left op a ≡ true → is_right op a b ≡ true → operator_type op a b ≡ Some (result_ty op)
both_taken op a b l r = operator op a b ∙ ap (λ t. by_tests t (is_right op a b) (result_ty op)) l ∙ ap (λ t. by_tests true t (result_ty op)) r

pub negation : (a : Ty) → negated_type a ≡ by_tests true (same_ty a BoolTy) BoolTy
negation IntTy = refl
negation TextTy = refl
negation BoolTy = refl

pub bool_test : (ty : Ty) → same_ty ty BoolTy ≡ is_bool (Some ty)
bool_test IntTy = refl
bool_test TextTy = refl
bool_test BoolTy = refl

-- ---- the expression's numbers and type, or that it has no type

abbrev pub numbers_of : List (Option Variable) → Sight
numbers_of known = map (λ o. option_map (λ v. v.number) o) known

abbrev pub Said : Scope → Option Expr → Result Typed TypeFault → Type 0
Said scope o (Ok t) = (o ≡ Some t.expr) × (type_in scope t.expr ≡ Some t.ty)
Said scope o (Err f) = (x : Expr) → o ≡ Some x → type_in scope x ≡ None

pub some_is : {A : Type 0} {x y : A} → Some x ≡ Some y → x ≡ y
some_is h = cc

pub none_is : {A : Type 0} {x : A} → None ≡ Some x → ⊥
none_is h = absurd cc

-- the parts of what is joined
parts : {A B : Type 0} (f : A → A → B) (l r : Option A) (x : B) → option_and_then (λ a. option_map (λ b. f a b) r) l ≡ Some x → (a b : A) × (l ≡ Some a) × (r ≡ Some b) × (f a b ≡ x)
parts f None r x h = absurd (none_is h)
parts f (Some a) None x h = absurd (none_is h)
parts f (Some a) (Some b) x h = (a, b, refl, refl, some_is h)

part : {A B : Type 0} (f : A → B) (o : Option A) (x : B) → option_map f o ≡ Some x → (a : A) × (o ≡ Some a) × (f a ≡ x)
part f None x h = absurd (none_is h)
part f (Some a) x h = (a, refl, some_is h)

pub none_right : (k : Ty → Ty → Option Ty) (o : Option Ty) → option_and_then (λ s. option_and_then (λ t. k s t) None) o ≡ None
none_right k None = refl
none_right k (Some s) = refl

pub none_for : (k : Ty → Option Ty) → ((t : Ty) → k t ≡ None) → (o : Option Ty) → option_and_then k o ≡ None
none_for k never None = refl
none_for k never (Some t) = never t

module _ (scope : Scope) where
  bin_type : (op : BinOp) (a b x : Expr) → Bin op a b ≡ x → type_in scope x ≡ option_and_then (λ s. option_and_then (λ t. operator_type op s t) (type_in scope b)) (type_in scope a)
  bin_type op a b x e = ap (type_in scope) (sym e) ∙ fold-Bin (Option Ty) (type_step scope) op a b

  not_type : (a x : Expr) → Not a ≡ x → type_in scope x ≡ option_and_then negated_type (type_in scope a)
  not_type a x e = ap (type_in scope) (sym e) ∙ fold-Not (Option Ty) (type_step scope) a

  -- the same expression has the same type
  same_type : (o : Option Expr) (a b : Expr) (t : Option Ty) → o ≡ Some a → o ≡ Some b → type_in scope b ≡ t → type_in scope a ≡ t
  same_type o a b t p q e = ap (type_in scope) (some_is (sym p ∙ q)) ∙ e

  said_operands : (at : ℕ) (op : BinOp) (l r : Option Expr) (rl rr : Result Typed TypeFault) → Said scope l rl → Said scope r rr → Said scope (option_and_then (λ a. option_map (λ b. Bin op a b) r) l) (operands at op rl rr)
  said_operands at op l r (Err f) rr p q = λ x is. let h = parts (λ a b. Bin op a b) l r x is in
      bin_type op h.0 h.1 x h.4 ∙ ap (λ o. option_and_then (λ s. option_and_then (λ t. operator_type op s t) (type_in scope h.1)) o) (p h.0 h.2)
  said_operands at op l r (Ok a) rr p q = left (is_left op a.ty) refl
    where
      whole : Option Expr
      whole = option_and_then (λ a. option_map (λ b. Bin op a b) r) l

      typed_left : (x : Expr) → l ≡ Some x → type_in scope x ≡ Some a.ty
      typed_left x is = same_type l x a.expr (Some a.ty) is p.0 p.1

      right : (rr : Result Typed TypeFault) → Said scope r rr → is_left op a.ty ≡ true → Said scope whole (rr >>= λ b. taken b.at (is_right op a.ty b.ty) >>= λ _. Ok (record { at = at; expr = Bin op a.expr b.expr; ty = result_ty op }))
      right (Err f) q ok = λ x is. let h = parts (λ a b. Bin op a b) l r x is in
          bin_type op h.0 h.1 x h.4 ∙ ap (λ o. option_and_then (λ s. option_and_then (λ t. operator_type op s t) o) (type_in scope h.0)) (q h.1 h.3) ∙ none_right (operator_type op) (type_in scope h.0)
      right (Ok b) q ok = go (is_right op a.ty b.ty) refl
        where
          go : (t : Bool) → is_right op a.ty b.ty ≡ t → Said scope whole (taken b.at t >>= λ _. Ok (record { at = at; expr = Bin op a.expr b.expr; ty = result_ty op }))
          go true e = (
            ap (λ o. option_and_then (λ a. option_map (λ b. Bin op a b) r) o) p.0 ∙ ap (λ o. option_map (λ b. Bin op a.expr b) o) q.0,
            bin_type op a.expr b.expr (Bin op a.expr b.expr) refl ∙ ap (λ o. option_and_then (λ s. option_and_then (λ t. operator_type op s t) (type_in scope b.expr)) o) p.1
                ∙ ap (λ o. option_and_then (λ t. operator_type op a.ty t) o) q.1 ∙ both_taken op a.ty b.ty ok e,
          )
          go false e = λ x is. let h = parts (λ a b. Bin op a b) l r x is in
              bin_type op h.0 h.1 x h.4 ∙ ap (λ o. option_and_then (λ s. option_and_then (λ t. operator_type op s t) (type_in scope h.1)) o) (typed_left h.0 h.2)
              ∙ ap (λ o. option_and_then (λ t. operator_type op a.ty t) o) (same_type r h.1 b.expr (Some b.ty) h.3 q.0 q.1) ∙ no_right op a.ty b.ty ok e

      left : (t : Bool) → is_left op a.ty ≡ t → Said scope whole (taken a.at t >>= λ _. rr >>= λ b. taken b.at (is_right op a.ty b.ty) >>= λ _. Ok (record { at = at; expr = Bin op a.expr b.expr; ty = result_ty op }))
      left true e = right rr q e
      left false e = λ x is. let h = parts (λ a b. Bin op a b) l r x is in
          bin_type op h.0 h.1 x h.4 ∙ ap (λ o. option_and_then (λ s. option_and_then (λ t. operator_type op s t) (type_in scope h.1)) o) (typed_left h.0 h.2)
          ∙ none_for (λ t. operator_type op a.ty t) (no_left op a.ty e) (type_in scope h.1)

  said_not : (at : ℕ) (o : Option Expr) (r : Result Typed TypeFault) → Said scope o r → Said scope (option_map Not o) (r >>= λ a. taken a.at (same_ty a.ty BoolTy) >>= λ _. Ok (record { at = at; expr = Not a.expr; ty = BoolTy }))
  said_not at o (Err f) p = λ x is. let h = part Not o x is in not_type h.0 x h.2 ∙ ap (λ t. option_and_then negated_type t) (p h.0 h.1)
  said_not at o (Ok a) p = go (same_ty a.ty BoolTy) refl
    where
      go : (t : Bool) → same_ty a.ty BoolTy ≡ t → Said scope (option_map Not o) (taken a.at t >>= λ _. Ok (record { at = at; expr = Not a.expr; ty = BoolTy }))
      go true e = (ap (λ x. option_map Not x) p.0, not_type a.expr (Not a.expr) refl ∙ ap (λ t. option_and_then negated_type t) p.1 ∙ negation a.ty ∙ ap (λ t. by_tests true t BoolTy) e)
      go false e = λ x is. let h = part Not o x is in
          not_type h.0 x h.2 ∙ ap (λ t. option_and_then negated_type t) (same_type o h.0 a.expr (Some a.ty) h.1 p.0 p.1) ∙ negation a.ty ∙ ap (λ t. by_tests true t BoolTy) e

  said_seen : (at at' : ℕ) (k : Option (Option Variable)) → ((v : Variable) → k ≡ Some (Some v) → scope v.number ≡ Some v.ty)
      → Said scope (option_map Var (number_at (option_map (λ o. option_map (λ v. v.number) o) k))) (seen_at at k >>= λ v. Ok (record { at = at'; expr = Var v.number; ty = v.ty }))
  said_seen at at' None fits = λ x is. absurd (none_is is)
  said_seen at at' (Some None) fits = λ x is. absurd (none_is is)
  said_seen at at' (Some (Some v)) fits = (refl, fold-Var (Option Ty) (type_step scope) v.number ∙ fits v refl)

-- each visible variable has a number below the next one, under which the scope has its type
abbrev pub Fit : List (Option Variable) → ℕ → Scope → Type 0
Fit known next scope = (i : ℕ) (v : Variable) → slice_get known i ≡ Some (Some v) → (v.number < next) × (scope v.number ≡ Some v.ty)

module _ (names : List (List ℕ)) (known : List (Option Variable)) (next : ℕ) (scope : Scope) (fit : Fit known next scope) where
  state : ScopeState
  state = record { names = names; known = known; next = next }

  said_name : (at at' : ℕ) (offset : Option ℕ)
      → Said scope (option_map Var (option_and_then (λ p. number_at (slice_get (numbers_of known) p)) offset)) (found_at at known offset >>= λ v. Ok (record { at = at'; expr = Var v.number; ty = v.ty }))
  said_name at at' None = λ x is. absurd (none_is is)
  said_name at at' (Some p) = subst (λ k. Said scope (option_map Var (number_at k)) (seen_at at (slice_get known p) >>= λ v. Ok (record { at = at'; expr = Var v.number; ty = v.ty })))
      (sym (slice_get-map (λ o. option_map (λ v. v.number) o) known p)) (said_seen scope at at' (slice_get known p) (λ v is. (fit p v is).1))

  abbrev SaidOf : ExprNode → Type 0
  SaidOf e = Said scope (resolved names (numbers_of known) e) (checked_expr (record { names = names; known = known; next = next }) e)

  along : (o o' : Option Expr) (r r' : Result Typed TypeFault) → o ≡ o' → r ≡ r' → Said scope o' r' → Said scope o r
  along o o' r r' p q h = subst (λ z. Said scope z r) (sym p) (subst (λ z. Said scope o' z) (sym q) h)

  pub said : (e : ExprNode) → SaidOf e
  said = by_nodes SaidOf
      (λ l. along _ _ _ _ (forms.fold-Literal (Option Expr) (resolve_step names (numbers_of known)) l) (forms.fold-Literal (Result Typed TypeFault) (checked_step (record { names = names; known = known; next = next })) l)
      (refl, fold-Lit (Option Ty) (type_step scope) l.value))
      (λ n. along _ _ _ _ (forms.fold-Name (Option Expr) (resolve_step names (numbers_of known)) n) (forms.fold-Name (Result Typed TypeFault) (checked_step (record { names = names; known = known; next = next })) n)
      (said_name n.at n.at (number_of names n.name)))
      (λ at op l r p q. along _ _ _ _ (forms.fold-Binary (Option Expr) (resolve_step names (numbers_of known)) at op l r) (forms.fold-Binary (Result Typed TypeFault) (checked_step (record { names = names; known = known; next = next })) at op l r)
      (said_operands scope at op _ _ _ _ p q))
      (λ at e p. along _ _ _ _ (forms.fold-Not (Option Expr) (resolve_step names (numbers_of known)) at e) (forms.fold-Not (Result Typed TypeFault) (checked_step (record { names = names; known = known; next = next })) at e)
      (said_not scope at _ _ p))

-- ---- where a type is wanted

abbrev pub Passed : Scope → (Option Ty → Bool) → Option Expr → Result Expr TypeFault → Type 0
Passed scope test o (Ok x) = (o ≡ Some x) × (test (type_in scope x) ≡ true)
Passed scope test o (Err f) = (x : Expr) → o ≡ Some x → test (type_in scope x) ≡ false

passed : (scope : Scope) (test : Option Ty → Bool) (by : Ty → Bool) → test None ≡ false → ((ty : Ty) → by ty ≡ test (Some ty)) → (o : Option Expr) (r : Result Typed TypeFault) → Said scope o r
    → Passed scope test o (r >>= λ v. taken v.at (by v.ty) >>= λ _. Ok v.expr)
passed scope test by none same o (Err f) p = λ x is. ap test (p x is) ∙ none
passed scope test by none same o (Ok v) p = go (by v.ty) refl
  where
    go : (t : Bool) → by v.ty ≡ t → Passed scope test o (taken v.at t >>= λ _. Ok v.expr)
    go true e = (p.0, ap test p.1 ∙ sym (same v.ty) ∙ e)
    go false e = λ x is. ap test (same_type scope o x v.expr (Some v.ty) is p.0 p.1) ∙ sym (same v.ty) ∙ e

wanted_none : (by : Option Ty) → is_wanted None by ≡ false
wanted_none None = refl
wanted_none (Some ty) = refl

module _ (names : List (List ℕ)) (known : List (Option Variable)) (next : ℕ) (scope : Scope) (fit : Fit known next scope) where
  pub wanted_passed : (e : ExprNode) (by : Option Ty) → Passed scope (λ t. is_wanted t by) (resolved names (numbers_of known) e) (checked_wanted (record { names = names; known = known; next = next }) e by)
  wanted_passed e by = passed scope (λ t. is_wanted t by) (λ ty. is_wanted (Some ty) by) (wanted_none by) (λ ty. refl) _ _ (said names known next scope fit e)

  pub test_passed : (e : ExprNode) → Passed scope is_bool (resolved names (numbers_of known) e) (checked_test (record { names = names; known = known; next = next }) e)
  test_passed e = passed scope is_bool (λ ty. same_ty ty BoolTy) refl bool_test _ _ (said names known next scope fit e)
