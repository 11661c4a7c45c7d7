-- Bounded keys of operations that may run have types over the values of the piece's inputs.
use Rattle.std.proofs.Common.{◌≡◌, ℕ, Bool, true, false, ◌&&◌, ◌||◌, ◌==◌, List, [], ◌∷◌, map, Option, Some, None, IsSome, refl, sym, ap, ap₂, ◌∙◌, subst, inl, inr}
use Rattle.std.specs.Prelude.{slice_get, IsSomeAnd}
use Rattle.std.specs.List.{filter_map, cons_option, AllByRecursion}
use Rattle.std.specs.Option.{option_map}
use Rattle.std.specs.FinMap.{get}
use Rattle.std.proofs.lemmas.Option.{slice_get-map, same_Some}
use Rattle.pac_value.specs.declared.values.Ty.{Ty}
use Rattle.pac_value.specs.declared.values.Ty.TheVariants.{Bool as BoolTy}
use Rattle.pac_value.specs.declared.values.Value.{Value}
use Rattle.pac_value.specs.declared.expr.Expr.{Expr}
use Rattle.pac_value.specs.Values.{type_of}
use Rattle.pac_value.specs.Expressions.{Values, type_in, types_of}
use Rattle.pac_value.specs.Scopes.{Scope, is_wanted}
use Rattle.pac_value.specs.State.{Tables}
use Rattle.pac_ops.specs.declared.program.OpKind.{OpKind}
use Rattle.pac_ops.specs.declared.program.OpKind.TheVariants.{Let, Cond, Read, Has, Put, SetCol, Delete, AbortIf}
use Rattle.pac_ops.specs.declared.program.Program.{Program}
use Rattle.pac_ops.specs.declared.shapes.TableTypes.{TableTypes}
use Rattle.pac_ops.specs.declared.transaction.Call.{Call}
use Rattle.pac_ops.specs.declared.transaction.Txn.TheVariants.{Call as ACall}
use Rattle.pac_ops.specs.Shapes.{RowsFit}
use Rattle.pac_ops.specs.Programs.{IsWellTyped, scope_in, key_type_in}
use Rattle.pac_ops.specs.Uses.{conds_use, kind_uses, op_uses, expr_uses}
use Rattle.pac_ops.specs.Operations.{opening}
use Rattle.pac_ops.specs.Flat.{is_as_asked, flat_meaning}
use Rattle.pac_ops.specs.Effects.{NumberedOp, target_of, numbered_from, defined_in, used_in}
use Rattle.pac_ops.specs.StaysFit.{HasTyped}
use Rattle.pac_ops.specs.Transactions.{call_state}
use Rattle.pac_ops.proofs.EffectLemmas.{key_uses, key-kind}
use Rattle.pac_ops.proofs.TypeLemmas.{wanted_is}
use Rattle.pac_ops.proofs.TypedOver.{typed_over}
use Rattle.pac_base.specs.Members.{Mem}
use Rattle.pac_base.proofs.TestLemmas.{or_left, or_right, eq_self, any_mem}
use Rattle.pac_plan.specs.declared.parts.PlanParts.{PlanParts}
use Rattle.pac_plan.specs.Nodes.{Operation}
use Rattle.pac_plan.specs.Analysis.{IsPlan, block_in}
use Rattle.pac_plan.specs.Pieces.{part, may_pass, InputsAre}
use Rattle.pac_plan.specs.Worlds.{ops_of}
use Rattle.pac_plan.specs.Codes.{TxnFitsPlan, HasTxnInputs, proc_ops}
use Rattle.pac_plan.proofs.AccessLemmas.{bounded-uses}
use Rattle.pac_plan.proofs.InputLemmas.{inputs_there}
use Rattle.pac_plan.proofs.OrderLemmas.{order_kept}
use Rattle.pac_plan.proofs.PartLemmas.{part-mem}
use Rattle.pac_plan.proofs.WorldLemmas.{stands}
use Rattle.pac_keys.specs.Probes.{probe_of, probes_of, CanProbe}
use Rattle.pac_keys.proofs.ProbeLemmas.{may-outer, probe_at}

-- the key that an operation names has the type that its table wants
key_wanted : (tables : List TableTypes) (scope : Scope) (kind : OpKind) (n : ℕ × Expr) → IsWellTyped tables scope kind → target_of kind ≡ Some n
    → is_wanted (type_in scope n.1) (key_type_in tables n.0) ≡ true
key_wanted tables scope (Let x e) n w at = cc
key_wanted tables scope (Cond x e) n w at = cc
key_wanted tables scope (Read x t k c d) n w at = subst (λ (m : ℕ × Expr). is_wanted (type_in scope m.1) (key_type_in tables m.0) ≡ true) (same_Some _ _ at) w.0
key_wanted tables scope (Has x t k) n w at = subst (λ (m : ℕ × Expr). is_wanted (type_in scope m.1) (key_type_in tables m.0) ≡ true) (same_Some _ _ at) w
key_wanted tables scope (Put t k es) n w at = subst (λ (m : ℕ × Expr). is_wanted (type_in scope m.1) (key_type_in tables m.0) ≡ true) (same_Some _ _ at) w.0
key_wanted tables scope (SetCol t k c e) n w at = subst (λ (m : ℕ × Expr). is_wanted (type_in scope m.1) (key_type_in tables m.0) ≡ true) (same_Some _ _ at) w.0
key_wanted tables scope (Delete t k) n w at = subst (λ (m : ℕ × Expr). is_wanted (type_in scope m.1) (key_type_in tables m.0) ≡ true) (same_Some _ _ at) w
key_wanted tables scope (AbortIf e) n w at = cc

-- what is alike on the conditions from elsewhere lets the same operations run
pass-alike : (os : List NumberedOp) (env end : Values) (cs : List (ℕ × Bool)) → ((x : ℕ) → conds_use x cs ≡ true → defined_in os x ≡ false → get env x ≡ get end x)
    → may_pass os env cs ≡ may_pass os end cs
pass-alike os env end [] same = refl
pass-alike os env end (c ∷ cs) same =
    ap₂ ◌&&◌ (go (defined_in os c.0) refl) (pass-alike os env end cs (λ x u. same x (or_right (c.0 == x) (conds_use x cs) u)))
  where
    go : (b : Bool) → defined_in os c.0 ≡ b → (b || is_as_asked c.1 (get env c.0)) ≡ (b || is_as_asked c.1 (get end c.0))
    go true d = refl
    go false d = ap (is_as_asked c.1) (same c.0 (or_left (c.0 == c.0) (conds_use c.0 cs) (eq_self c.0)) d)

-- what each operation has, its probe has
probes_have : (os : List NumberedOp) (env : Values) (more : List NumberedOp) → ((o : NumberedOp) (n : ℕ × Expr) → Mem o more → target_of o.1.kind ≡ Some n → CanProbe env (probe_at os env o n))
    → AllByRecursion (CanProbe env) (filter_map (λ o. probe_of os o.1) more)
probes_have os env [] f = tt
probes_have os env (o ∷ more) f = go (target_of o.1.kind) refl (probes_have os env more (λ d n m. f d n (inr m)))
  where
    go : (n : Option (ℕ × Expr)) → target_of o.1.kind ≡ n → AllByRecursion (CanProbe env) (filter_map (λ o. probe_of os o.1) more)
        → AllByRecursion (CanProbe env) (cons_option (option_map (probe_at os env o) n) (filter_map (λ o. probe_of os o.1) more))
    go None at rest = rest
    go (Some n) at rest = (f o n (inl refl) at, rest)

module _ (parts : PlanParts) (is : IsPlan parts) (p : ℕ) (program : Program) (at : slice_get parts.programs p ≡ Some program)
    (args : List Value) (rows : Tables) (fits : map type_of args ≡ program.params) (rows_fit : RowsFit parts.tables rows) (block : ℕ) (env : Values) where
  abbrev os : List NumberedOp
  os = part (λ o. block_in parts (Operation p o.0)) block (numbered_from 0 program.ops)

  abbrev end : Values
  end = (flat_meaning program.vars program.ops (opening args rows)).env

  module _ (inputs : InputsAre os end env) where
    used_here : (o : NumberedOp) → Mem o os → (x : ℕ) → op_uses x o.1 ≡ true → used_in os x ≡ true
    used_here o m x u = any_mem (λ (d : NumberedOp). op_uses x d.1) o os m u

    typed_key : (o : NumberedOp) (n : ℕ × Expr) → Mem o os → target_of o.1.kind ≡ Some n → CanProbe env (probe_at os env o n)
    typed_key o n m named bounded held = (
      subst (λ t. IsSome t) (sym (over ∙ w.1)) refl,
      λ b. w.3 (same_Some _ _ (sym (over ∙ w.1) ∙ b)),
    )
      where
        pass : may_pass os end o.1.conds ≡ true
        pass = sym (pass-alike os env end o.1.conds (λ x u out. inputs x (used_here o m x (or_left (conds_use x o.1.conds) (kind_uses x o.1.kind) u)) out)) ∙ may-outer os env o.1.conds ∙ held

        uses : (x : ℕ) → expr_uses x n.1 ≡ true → op_uses x o.1 ≡ true
        uses x u = or_right (conds_use x o.1.conds) (kind_uses x o.1.kind) (key-kind o.1.kind x (ap (λ t. key_uses t x) named ∙ u))

        there : (x : ℕ) → expr_uses x n.1 ≡ true → HasTyped program.vars env x
        there x u =
            let out = bounded-uses os (Some n) bounded x u in
            let h = inputs_there parts is p program at args rows fits rows_fit block o m pass x (uses x u) out in
            (h.0, inputs x (used_here o m x (uses x u)) out ∙ h.1, h.2)

        over : type_in (types_of env) n.1 ≡ type_in (scope_in program.vars) n.1
        over = typed_over program.vars env n.1 there

        w : (ty : Ty) × (type_in (scope_in program.vars) n.1 ≡ Some ty) × (key_type_in parts.tables n.0 ≡ Some ty) × (ty ≡ BoolTy → ⊥)
        w = wanted_is _ _ (key_wanted parts.tables (scope_in program.vars) o.1.kind n
            ((is.programs p program at).typed o.0 o.1 (stands parts (order_kept parts is) p program at o (part-mem (λ o. block_in parts (Operation p o.0)) block (numbered_from 0 program.ops) o m).0)) named)

    keys_typed : AllByRecursion (CanProbe env) (probes_of os)
    keys_typed = probes_have os env os typed_key

-- of a call that fits the plan
pub call_keys : (parts : PlanParts) → IsPlan parts → (call : Call) (block : ℕ) (env : Values) → TxnFitsPlan parts (ACall call) → HasTxnInputs parts block (ACall call) env
    → AllByRecursion (CanProbe env) (probes_of (proc_ops parts call.proc block))
call_keys parts is call block env fits (rows, rows_fit, inputs) = go (slice_get parts.programs call.proc) refl
    (subst (λ o. IsSomeAnd o (λ types. map type_of call.args ≡ types)) (slice_get-map (λ (program : Program). program.params) parts.programs call.proc) fits) inputs
  where
    go : (o : Option Program) → slice_get parts.programs call.proc ≡ o → IsSomeAnd (option_map (λ (program : Program). program.params) o) (λ types. map type_of call.args ≡ types)
        → InputsAre (part (λ o. block_in parts (Operation call.proc o.0)) block (numbered_from 0 (ops_of o))) (call_state o call.args rows).env env
        → AllByRecursion (CanProbe env) (probes_of (part (λ o. block_in parts (Operation call.proc o.0)) block (numbered_from 0 (ops_of o))))
    go None at f i = absurd f
    go (Some program) at f i = keys_typed parts is call.proc program at call.args rows f rows_fit block env i
