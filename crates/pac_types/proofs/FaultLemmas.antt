-- Checking from left to right meets the first of the faults of an expression, and of the parts of a statement.
use Rattle.std.proofs.Common.{◌≡◌, ◌<◌, ℕ, zero, suc, Bool, true, false, List, [], ◌∷◌, ◌++◌, length, map, Option, Some, None, Result, Ok, Err, refl, sym, ap, subst, ◌∙◌, arith}
use Rattle.std.specs.Prelude.{slice_get, not, IfSome}
use Rattle.std.specs.Option.{option_map, option_and_then}
use Rattle.std.proofs.lemmas.Option.{slice_get-map}
use Rattle.std.proofs.lemmas.List.{length-map}
use Rattle.pac_value.specs.declared.values.Ty.{Ty}
use Rattle.pac_value.specs.declared.values.Ty.TheVariants.{Bool as BoolTy}
use Rattle.pac_value.specs.declared.expr.BinOp.{BinOp}
use Rattle.pac_value.specs.declared.expr.Expr.{Var, Bin, Not}
use Rattle.pac_value.specs.Expressions.{◌>>=◌, operator_type, negated_type}
use Rattle.pac_syntax.specs.declared.tree.NameNode.{NameNode}
use Rattle.pac_syntax.specs.declared.tree.ExprNode.{ExprNode}
use Rattle.pac_syntax.proofs.NodeForms as forms
use Rattle.pac_types.specs.declared.type_error.TypeFault.{TypeFault}
use Rattle.pac_types.specs.declared.type_error.TypeFaultKind.TheVariants.{Twice, WrongType}
use Rattle.pac_types.specs.declared.checker.scope.Variable.{Variable}
use Rattle.pac_types.specs.declared.checker.expressions.Typed.{Typed}
use Rattle.pac_types.specs.declared.table.Column.{Column}
use Rattle.pac_types.specs.declared.table.Table.{Table}
use Rattle.pac_types.specs.Numbering.{number_of, table_number, column_number, column_names, table_names}
use Rattle.pac_types.specs.WellFormed.{key_type, column_type, column_types_of, types}
use Rattle.pac_value.specs.Scopes.{is_wanted}
use Rattle.pac_types.specs.Faults.{fault_if, is_before, twice, Known, seen, name_faults, same_ty, is_left, wanted_right, is_same, is_fitting, is_test, Judged, wrong_type, placed, judge_step, judged, unknown, key_wanted, values_faults, cell_faults}
use Rattle.pac_types.specs.Checking.{ScopeState, Cells, once, unless, found_at, seen_at, taken, is_right, result_ty, operands, checked_step, checked_expr, checked_wanted, checked_test, known_at, checked_cell, checked_values}
use Rattle.pac_syntax.proofs.NodeForms.{by_nodes}
use Rattle.pac_types.proofs.CleanLemmas.{right_is}
use Rattle.pac_types.proofs.ExprLemmas.{by_tests, no_left, no_right, both_taken, negation, none_right, none_for, none_is}
use Rattle.pac_types.proofs.NameLemmas.{number-within}

-- ---- a result and the faults of what it is of: none, or the first

abbrev pub Agree : {A : Type 0} → List TypeFault → Result A TypeFault → Type 0
Agree fs (Ok x) = fs ≡ []
Agree fs (Err f) = (rest : List TypeFault) × (fs ≡ f ∷ rest)

pub agree_then : {A B : Type 0} (fs gs : List TypeFault) (r : Result A TypeFault) (k : A → Result B TypeFault) → Agree fs r → ((x : A) → r ≡ Ok x → Agree gs (k x)) → Agree (fs ++ gs) (r >>= k)
agree_then fs gs (Ok x) k p q = subst (λ zs. Agree (zs ++ gs) (k x)) (sym p) (q x refl)
agree_then fs gs (Err f) k p q = (p.0 ++ gs, ap (λ zs. zs ++ gs) p.1)

pub agree_map : {A B : Type 0} (fs : List TypeFault) (r : Result A TypeFault) (h : A → B) → Agree fs r → Agree fs (r >>= λ x. Ok (h x))
agree_map fs (Ok x) h p = p
agree_map fs (Err f) h p = p

pub agree_same : {A : Type 0} (fs gs : List TypeFault) (r : Result A TypeFault) → fs ≡ gs → Agree gs r → Agree fs r
agree_same fs gs r e h = subst (λ zs. Agree zs r) (sym e) h

pub once_agrees : (names : List (List ℕ)) (offset : ℕ) (name : NameNode) → Agree (twice names offset name) (once names offset name)
once_agrees names offset name = go (is_before (number_of names name.name) offset)
  where
    go : (b : Bool) → Agree (fault_if b name.at Twice) (unless {A = Unit {0}} b tt name.at Twice)
    go true = ([], refl)
    go false = refl

-- ---- expressions

abbrev pub known_types : List (Option Variable) → Known
known_types known = map (λ o. option_map (λ v. Some v.ty) o) known

abbrev pub JudgedBy : Judged → Result Typed TypeFault → Type 0
JudgedBy j (Ok t) = (j.at ≡ t.at) × (j.ty ≡ Some t.ty) × (j.faults ≡ [])
JudgedBy j (Err f) = (j.ty ≡ None) × (rest : List TypeFault) × (j.faults ≡ f ∷ rest)

-- an expression with no fault, at a position that may not take it, and one with a fault
placed_ok : (takes : Ty → Bool) (j : Judged) (t : Typed) → JudgedBy j (Ok t) → placed takes j ≡ fault_if (not (takes t.ty)) t.at WrongType ++ []
placed_ok takes j t p = λ i. wrong_type takes (p.0 i) (p.1 i) ++ p.2 i

placed_err : (takes : Ty → Bool) (j : Judged) (f : TypeFault) (p : JudgedBy j (Err f)) → placed takes j ≡ f ∷ p.1
placed_err takes j f p = λ i. wrong_type takes j.at (p.0 i) ++ p.2 i

placed_taken : (takes : Ty → Bool) (j : Judged) (t : Typed) → JudgedBy j (Ok t) → takes t.ty ≡ true → placed takes j ≡ []
placed_taken takes j t p e = placed_ok takes j t p ∙ ap (λ b. fault_if (not b) t.at WrongType ++ []) e

placed_wrong : (takes : Ty → Bool) (j : Judged) (t : Typed) → JudgedBy j (Ok t) → takes t.ty ≡ false → placed takes j ≡ record { at = t.at; kind = WrongType } ∷ []
placed_wrong takes j t p e = placed_ok takes j t p ∙ ap (λ b. fault_if (not b) t.at WrongType ++ []) e

pub placed_agrees : {B : Type 0} (takes by : Ty → Bool) (h : Typed → B) → ((ty : Ty) → by ty ≡ takes ty) → (j : Judged) (r : Result Typed TypeFault) → JudgedBy j r → Agree (placed takes j) (r >>= λ v. taken v.at (by v.ty) >>= λ _. Ok (h v))
placed_agrees takes by h same j (Err f) p = (p.1, placed_err takes j f p)
placed_agrees {B} takes by h same j (Ok v) p = go (by v.ty) refl
  where
    go : (b : Bool) → by v.ty ≡ b → Agree {A = B} (placed takes j) (taken v.at b >>= λ _. Ok (h v))
    go true e = placed_taken takes j v p (sym (same v.ty) ∙ e)
    go false e = ([], placed_wrong takes j v p (sym (same v.ty) ∙ e))

module _ (at : ℕ) (op : BinOp) (l r : Judged) where
  abbrev whole : Judged
  whole = record {
    at = at;
    ty = option_and_then (λ a. option_and_then (λ b. operator_type op a b) r.ty) l.ty;
    faults = placed (is_left op) l ++ placed (is_same (wanted_right op l.ty)) r;
  }

  abbrev right_takes : Ty → Bool
  right_takes = is_same (wanted_right op l.ty)

  type_at : (a : Ty) → l.ty ≡ Some a → option_and_then (λ a. option_and_then (λ b. operator_type op a b) r.ty) l.ty ≡ option_and_then (λ b. operator_type op a b) r.ty
  type_at a e = ap (λ o. option_and_then (λ a. option_and_then (λ b. operator_type op a b) r.ty) o) e

  both_judged : (a b : Typed) (p : JudgedBy l (Ok a)) (q : JudgedBy r (Ok b)) → is_left op a.ty ≡ true → (c : Bool) → is_right op a.ty b.ty ≡ c
      → JudgedBy whole (taken b.at c >>= λ _. Ok (record { at = at; expr = Bin op a.expr b.expr; ty = result_ty op }))
  both_judged a b p q e true g = (
    refl,
    type_at a.ty p.1 ∙ ap (λ o. option_and_then (λ b. operator_type op a.ty b) o) q.1 ∙ both_taken op a.ty b.ty e g,
    λ i. placed_taken (is_left op) l a p e i ++ placed_taken right_takes r b q (ap (λ o. is_same (wanted_right op o) b.ty) p.1 ∙ right_is op a.ty b.ty ∙ g) i,
  )
  both_judged a b p q e false g = (
    type_at a.ty p.1 ∙ ap (λ o. option_and_then (λ b. operator_type op a.ty b) o) q.1 ∙ no_right op a.ty b.ty e g,
    [],
    λ i. placed_taken (is_left op) l a p e i ++ placed_wrong right_takes r b q (ap (λ o. is_same (wanted_right op o) b.ty) p.1 ∙ right_is op a.ty b.ty ∙ g) i,
  )

  right_judged : (a : Typed) (p : JudgedBy l (Ok a)) → is_left op a.ty ≡ true → (rr : Result Typed TypeFault) → JudgedBy r rr
      → JudgedBy whole (rr >>= λ b. taken b.at (is_right op a.ty b.ty) >>= λ _. Ok (record { at = at; expr = Bin op a.expr b.expr; ty = result_ty op }))
  right_judged a p e (Err f) q = (
    ap (λ o. option_and_then (λ a. option_and_then (λ b. operator_type op a b) o) l.ty) q.0 ∙ none_right (operator_type op) l.ty,
    q.1,
    λ i. placed_taken (is_left op) l a p e i ++ placed_err right_takes r f q i,
  )
  right_judged a p e (Ok b) q = both_judged a b p q e (is_right op a.ty b.ty) refl

  left_judged : (a : Typed) (p : JudgedBy l (Ok a)) (rr : Result Typed TypeFault) → JudgedBy r rr → (c : Bool) → is_left op a.ty ≡ c
      → JudgedBy whole (taken a.at c >>= λ _. rr >>= λ b. taken b.at (is_right op a.ty b.ty) >>= λ _. Ok (record { at = at; expr = Bin op a.expr b.expr; ty = result_ty op }))
  left_judged a p rr q true e = right_judged a p e rr q
  left_judged a p rr q false e = (type_at a.ty p.1 ∙ none_for (λ t. operator_type op a.ty t) (no_left op a.ty e) r.ty, placed right_takes r, ap (λ zs. zs ++ placed right_takes r) (placed_wrong (is_left op) l a p e))

  operands_judged : (rl rr : Result Typed TypeFault) → JudgedBy l rl → JudgedBy r rr → JudgedBy whole (operands at op rl rr)
  operands_judged (Err f) rr p q = (ap (λ o. option_and_then (λ a. option_and_then (λ b. operator_type op a b) r.ty) o) p.0, p.1 ++ placed right_takes r, ap (λ zs. zs ++ placed right_takes r) (placed_err (is_left op) l f p))
  operands_judged (Ok a) rr p q = left_judged a p rr q (is_left op a.ty) refl

not_judged : (at : ℕ) (e : Judged) (r : Result Typed TypeFault) → JudgedBy e r
    → JudgedBy (record { at = at; ty = option_and_then negated_type e.ty; faults = placed is_test e }) (r >>= λ a. taken a.at (same_ty a.ty BoolTy) >>= λ _. Ok (record { at = at; expr = Not a.expr; ty = BoolTy }))
not_judged at e (Err f) p = (ap (λ o. option_and_then negated_type o) p.0, p.1, placed_err is_test e f p)
not_judged at e (Ok a) p = go (same_ty a.ty BoolTy) refl
  where
    go : (b : Bool) → same_ty a.ty BoolTy ≡ b → JudgedBy (record { at = at; ty = option_and_then negated_type e.ty; faults = placed is_test e }) (taken a.at b >>= λ _. Ok (record { at = at; expr = Not a.expr; ty = BoolTy }))
    go true g = (refl, ap (λ o. option_and_then negated_type o) p.1 ∙ negation a.ty ∙ ap (λ b. by_tests true b BoolTy) g, placed_taken is_test e a p g)
    go false g = (ap (λ o. option_and_then negated_type o) p.1 ∙ negation a.ty ∙ ap (λ b. by_tests true b BoolTy) g, [], placed_wrong is_test e a p g)

abbrev named : ℕ → Option ℕ → Option (Option Ty) → Judged
named at offset k = record { at = at; ty = option_and_then (λ ty. ty) k; faults = name_faults at offset k }

seen_judged : (at offset : ℕ) (k : Option (Option Variable)) → JudgedBy (named at (Some offset) (option_and_then (λ v. v) (option_map (λ o. option_map (λ v. Some v.ty) o) k))) (seen_at at k >>= λ v. Ok (record { at = at; expr = Var v.number; ty = v.ty }))
seen_judged at offset None = (refl, [], refl)
seen_judged at offset (Some None) = (refl, [], refl)
seen_judged at offset (Some (Some v)) = (refl, refl, refl)

name_judged : (at : ℕ) (known : List (Option Variable)) (offset : Option ℕ) → JudgedBy (named at offset (seen (known_types known) offset)) (found_at at known offset >>= λ v. Ok (record { at = at; expr = Var v.number; ty = v.ty }))
name_judged at known None = (refl, [], refl)
name_judged at known (Some offset) = subst (λ k. JudgedBy (named at (Some offset) (option_and_then (λ v. v) k)) (seen_at at (slice_get known offset) >>= λ v. Ok (record { at = at; expr = Var v.number; ty = v.ty })))
    (sym (slice_get-map (λ o. option_map (λ v. Some v.ty) o) known offset)) (seen_judged at offset (slice_get known offset))

module _ (names : List (List ℕ)) (known : List (Option Variable)) (next : ℕ) where
  abbrev here : ScopeState
  here = record { names = names; known = known; next = next }

  abbrev types_here : Known
  types_here = known_types known

  judged-at : (e : ExprNode) (j : Judged) (r : Result Typed TypeFault) → judged names types_here e ≡ j → checked_expr here e ≡ r → JudgedBy j r → JudgedBy (judged names types_here e) (checked_expr here e)
  judged-at e j r p q h = subst (λ z. JudgedBy z (checked_expr here e)) (sym p) (subst (λ z. JudgedBy j z) (sym q) h)

  pub expr_judged : (e : ExprNode) → JudgedBy (judged names types_here e) (checked_expr here e)
  expr_judged = by_nodes (λ e. JudgedBy (judged names types_here e) (checked_expr here e))
      (λ l. judged-at _ _ _ (forms.fold-Literal Judged (judge_step names types_here) l) (forms.fold-Literal (Result Typed TypeFault) (checked_step here) l) (refl, refl, refl))
      (λ n. judged-at _ _ _ (forms.fold-Name Judged (judge_step names types_here) n) (forms.fold-Name (Result Typed TypeFault) (checked_step here) n) (name_judged n.at known (number_of names n.name)))
      (λ at op l r p q. judged-at _ _ _ (forms.fold-Binary Judged (judge_step names types_here) at op l r) (forms.fold-Binary (Result Typed TypeFault) (checked_step here) at op l r) (operands_judged at op _ _ _ _ p q))
      (λ at e p. judged-at _ _ _ (forms.fold-Not Judged (judge_step names types_here) at e) (forms.fold-Not (Result Typed TypeFault) (checked_step here) at e) (not_judged at _ _ p))

  pub test_agrees : (e : ExprNode) → Agree (placed is_test (judged names types_here e)) (checked_test here e)
  test_agrees e = placed_agrees is_test is_test (λ v. v.expr) (λ ty. refl) _ _ (expr_judged e)

  -- where some type is wanted
  pub wanted_agrees : (e : ExprNode) (by : Option Ty) (wanted : Ty) → by ≡ Some wanted → Agree (placed (is_fitting by) (judged names types_here e)) (checked_wanted here e by)
  wanted_agrees e by wanted is = placed_agrees (is_fitting by) (λ ty. is_wanted (Some ty) by) (λ v. v.expr) (λ ty. ap (λ o. is_wanted (Some ty) o) is ∙ sym (ap (λ o. is_fitting o ty) is)) _ _ (expr_judged e)

  pub values_agree : (es : List ExprNode) (tys : List Ty) → length es ≡ length tys → Agree (values_faults (judged names types_here) es tys) (checked_values here es tys)
  values_agree [] tys e = refl
  values_agree (x ∷ xs) [] e = let never : ⊥ = omega (arith, e) in absurd never
  values_agree (x ∷ xs) (ty ∷ tys) e = agree_then _ _ (checked_wanted here x (Some ty)) (λ y. checked_values here xs tys >>= λ ys. Ok (y ∷ ys)) (wanted_agrees x (Some ty) ty refl) (λ y is. agree_map _ (checked_values here xs tys) (λ ys. y ∷ ys) (values_agree xs tys (omega (arith, e))))

-- ---- tables and columns that are found

in_range : {A : Type 0} (xs : List A) (i : ℕ) → i < length xs → (x : A) × (slice_get xs i ≡ Some x)
in_range [] i lt = let never : ⊥ = omega (arith, lt) in absurd never
in_range (x ∷ xs) zero lt = (x, refl)
in_range (x ∷ xs) (suc i) lt = in_range xs i (omega (arith, lt))

number_below : (names : List (List ℕ)) (name : List ℕ) (n : ℕ) → number_of names name ≡ Some n → n < length names
number_below names name n e = subst (λ (o : Option ℕ). IfSome o (λ k. k < length names)) e (number-within names name)

pub key_found : (tables : List Table) (name : List ℕ) (t : ℕ) → table_number tables name ≡ Some t → (ty : Ty) × (key_type tables t ≡ Some ty)
key_found tables name t e =
    let p = in_range tables t (omega (arith, number_below (table_names tables) name t e, length-map tables (λ (table : Table). table.name))) in
    (p.0.key, ap (λ o. option_map (λ table. table.key) o) p.1)

pub column_found : (tables : List Table) (t : ℕ) (name : List ℕ) (c : ℕ) → column_number tables t name ≡ Some c → (ty : Ty) × (column_type tables t c ≡ Some ty)
column_found tables t name c e = go (slice_get tables t) refl e
  where
    go : (o : Option Table) → slice_get tables t ≡ o → option_and_then (λ table. number_of (column_names table.columns) name) o ≡ Some c → (ty : Ty) × (column_type tables t c ≡ Some ty)
    go None is h = absurd (none_is h)
    go (Some table) is h =
        let p = in_range (types table.columns) c (omega (arith, number_below (column_names table.columns) name c h, length-map table.columns (λ (column : Column). column.name), length-map table.columns (λ (column : Column). column.ty))) in
        (p.0, ap (λ o. slice_get (column_types_of o) c) is ∙ p.1)

-- ---- the parts of statements

pub then_ok : {A B : Type 0} (r : Result A TypeFault) (k : A → Result B TypeFault) (y : B) → (r >>= k) ≡ Ok y → (x : A) × (r ≡ Ok x) × (k x ≡ Ok y)
then_ok (Ok x) k y h = (x, refl, h)
then_ok (Err f) k y h = absurd (err_ok h)
  where
    err_ok : ◌≡◌ {A = Result _ TypeFault} (Err f) (Ok y) → ⊥
    err_ok h = absurd cc

module _ (tables : List Table) (names : List (List ℕ)) (known : List (Option Variable)) (next : ℕ) where
  abbrev st : ScopeState
  st = record { names = names; known = known; next = next }

  abbrev judge : ExprNode → Judged
  judge = judged names (known_types known)

  pub cell_agrees : (table : NameNode) (key : ExprNode) → Agree (cell_faults tables judge table key) (checked_cell tables st table key)
  cell_agrees table key = go (table_number tables table.name) refl
    where
      go : (o : Option ℕ) → table_number tables table.name ≡ o → Agree {A = Cells} (unknown o table.at ++ placed (is_fitting (key_wanted tables o)) (judge key)) (known_at table.at o >>= λ t. checked_wanted st key (key_type tables t) >>= λ k. Ok (t, k))
      go None e = (_, refl)
      go (Some t) e = let w = key_found tables table.name t e in agree_map _ (checked_wanted st key (key_type tables t)) (λ k. (t, k)) (wanted_agrees names known next key (key_type tables t) w.0 w.1)
