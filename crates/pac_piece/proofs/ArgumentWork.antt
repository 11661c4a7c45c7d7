-- The code of a piece whose inputs are the arguments of its transaction can be run.
use Rattle.std.proofs.Common.{◌≡◌, ℕ, ◌+◌, ◌<◌, ◌==◌, Bool, true, false, cond, List, [], ◌∷◌, map, length, Option, Some, None, refl, sym, ap, ◌∙◌, subst, ◌⊎◌, inl, inr, ⊎_elim, arith}
use Rattle.std.specs.Prelude.{slice_get, IsSomeAnd}
use Rattle.std.specs.Option.{option_map}
use Rattle.std.specs.Ordering.{nat_cmp}
use Rattle.std.specs.FinMap.{get, insert, empty, get-empty, get-insert}
use Rattle.std.specs.Cmp.{nat_cmp_total, unsigned_ties}
use Rattle.std.proofs.lemmas.Option.{slice_get-map}
use Rattle.std.proofs.lemmas.List.{length-map}
use Rattle.pac_base.proofs.TestLemmas.{any_gives, unlike, same_number}
use Rattle.pac_base.proofs.ItemLemmas.{there}
use Rattle.pac_value.specs.declared.values.Value.{Value}
use Rattle.pac_value.specs.Values.{type_of}
use Rattle.pac_value.specs.Expressions.{Values}
use Rattle.pac_value.specs.State.{RowValues, Tables, cell_cmp}
use Rattle.pac_ops.specs.declared.program.FlatOp.{FlatOp}
use Rattle.pac_ops.specs.declared.program.Program.{Program}
use Rattle.pac_ops.specs.declared.shapes.TableTypes.{TableTypes}
use Rattle.pac_ops.specs.declared.transaction.Txn.{Txn}
use Rattle.pac_ops.specs.declared.transaction.Txn.TheVariants.{Call as ACall, AdHoc}
use Rattle.pac_ops.specs.Shapes.{RowsFit}
use Rattle.pac_ops.specs.Uses.{defined_variable, Defines}
use Rattle.pac_ops.specs.Operations.{opening, with_values}
use Rattle.pac_ops.specs.Transactions.{txn_state, call_state}
use Rattle.pac_ops.specs.Effects.{NumberedOp, numbered_from, is_var, defined_in}
use Rattle.pac_ops.proofs.DefinedLemmas.{undefined_meaning, var-named}
use Rattle.pac_ops.proofs.RecordLemmas.{whole_meaning, number_at}
use Rattle.pac_plan.specs.declared.code.Code.{Code}
use Rattle.pac_plan.specs.declared.parts.PlanParts.{PlanParts}
use Rattle.pac_plan.specs.Analysis.{IsPlan, HasBlockEdge}
use Rattle.pac_plan.specs.Worlds.{ops_of, txn_args, txn_code}
use Rattle.pac_plan.specs.Codes.{ArgumentsAreInputs, TxnFitsPlan, code_in}
use Rattle.pac_piece.specs.Frames.{AreAmong}
use Rattle.pac_piece.specs.Runnable.{IsRunnableOver}

insert-at : (env : Values) (x : ℕ) (v : Value) (y : ℕ) → get (insert env x v) y ≡ cond (y == x) (Some v) (get env y)
insert-at env x v y = get-insert nat_cmp_total env x v y ∙ ap (λ b. cond b (Some v) (get env y)) (sym (unsigned_ties y x))

-- a variable with a value has it from before, or is one of those that were numbered
numbered_below : (args : List Value) (n : ℕ) (env : Values) (x : ℕ) (v : Value) → get (with_values n args env) x ≡ Some v → (get env x ≡ Some v) ⊎ (x < n + length args)
numbered_below [] n env x v e = inl e
numbered_below (a ∷ rest) n env x v e = ⊎_elim
    (λ h. pick (x == n) refl (sym (insert-at env n a x) ∙ h))
    (λ lt. inr (omega (arith, lt)))
    (numbered_below rest (n + 1) (insert env n a) x v e)
  where
    pick : (b : Bool) → (x == n) ≡ b → cond b (Some a) (get env x) ≡ Some v → (get env x ≡ Some v) ⊎ (x < n + length (a ∷ rest))
    pick true t h = let same : x ≡ n = same_number x n t in inr (omega (arith, same))
    pick false t h = inl h

-- a variable that an operation defines is no parameter
defines : (ops : List FlatOp) (x : ℕ) → defined_in (numbered_from 0 ops) x ≡ true → (i : ℕ) × Defines ops i x
defines ops x e =
    let o = any_gives (λ (o : NumberedOp). is_var x (defined_variable o.1.kind)) (numbered_from 0 ops) e in
    let at = number_at 0 ops o.0 o.1 in
    (at.0, there ops at.0 o.0.1 (λ (op : FlatOp). defined_variable op.kind ≡ Some x) at.2 (var-named x (defined_variable o.0.1.kind) o.2))

-- no operation defines an argument
pub arguments_undefined : (parts : PlanParts) → IsPlan parts → (txn : Txn) → TxnFitsPlan parts txn → (x : ℕ) (v : Value) → get (with_values 0 (txn_args (Some txn)) empty) x ≡ Some v
    → defined_in (txn_code parts (Some txn)) x ≡ false
arguments_undefined parts is (AdHoc records) fits x v e = let wrong : ◌≡◌ {A = Option Value} None (Some v) = sym (get-empty nat_cmp x) ∙ e in absurd cc
arguments_undefined parts is (ACall call) fits x v e =
    go (slice_get parts.programs call.proc) refl (subst (λ o. IsSomeAnd o (λ types. map type_of call.args ≡ types)) (slice_get-map (λ (program : Program). program.params) parts.programs call.proc) fits)
  where
    go : (o : Option Program) → slice_get parts.programs call.proc ≡ o → IsSomeAnd (option_map (λ (program : Program). program.params) o) (λ types. map type_of call.args ≡ types)
        → defined_in (numbered_from 0 (ops_of o)) x ≡ false
    go None at f = absurd f
    go (Some program) at f = unlike _ kept
      where
        below : x < length program.params
        below = ⊎_elim
            (λ h. let wrong : ◌≡◌ {A = Option Value} None (Some v) = sym (get-empty nat_cmp x) ∙ h in absurd cc)
            (λ lt. let same : length call.args ≡ length program.params = sym (length-map call.args type_of) ∙ ap length f in omega (arith, lt, same))
            (numbered_below call.args 0 empty x v e)

        kept : defined_in (numbered_from 0 program.ops) x ≡ true → ⊥
        kept d = let i = defines program.ops x d in let after = (is.programs call.proc program at).after i.0 x i.1 in omega (arith, below, after)

-- a transaction keeps its arguments
pub arguments_stay : (parts : PlanParts) → IsPlan parts → (txn : Txn) → TxnFitsPlan parts txn → (rows : Tables) → AreAmong (with_values 0 (txn_args (Some txn)) empty) (txn_state parts.programs txn rows).env
arguments_stay parts is (AdHoc records) fits rows x v e = e
arguments_stay parts is (ACall call) fits rows x v e =
    go (slice_get parts.programs call.proc) refl (subst (λ o. IsSomeAnd o (λ types. map type_of call.args ≡ types)) (slice_get-map (λ (program : Program). program.params) parts.programs call.proc) fits)
  where
    go : (o : Option Program) → slice_get parts.programs call.proc ≡ o → IsSomeAnd (option_map (λ (program : Program). program.params) o) (λ types. map type_of call.args ≡ types)
        → get (call_state o call.args rows).env x ≡ Some v
    go None at f = absurd f
    go (Some program) at f =
        ap (λ s. get s.env x) (sym (whole_meaning program.vars 0 program.ops (opening call.args rows)))
        ∙ undefined_meaning program.vars (numbered_from 0 program.ops) (opening call.args rows) x (ap (λ o. defined_in (numbered_from 0 (ops_of o)) x) (sym at) ∙ arguments_undefined parts is (ACall call) fits x v e)
        ∙ e

-- ---- the code of such a piece

pub none_fit : (tables : List TableTypes) → RowsFit tables empty
none_fit tables cell row e = let none : ◌≡◌ {A = Option RowValues} None (Some row) = sym (get-empty cell_cmp cell) ∙ e in absurd cc

-- it can be run over rows that fit; its transaction over no rows leaves the arguments as inputs, as over any
abbrev pub over_arguments : (parts : PlanParts) → IsPlan parts → (txn : Txn) → TxnFitsPlan parts txn → (block : ℕ) → ((from : ℕ) → HasBlockEdge parts from block → ⊥) → ArgumentsAreInputs
    → (code : Code) (env : Values) (base : Tables) → code ≡ code_in parts block txn → env ≡ with_values 0 (txn_args (Some txn)) empty → RowsFit parts.tables base → IsRunnableOver block code env base
over_arguments parts is txn fits block entry are_inputs code env base is_code is_env rows = record {
  parts = parts;
  is_plan = is;
  txn = txn;
  fits = fits;
  code = is_code;
  before = empty;
  before_fit = none_fit parts.tables;
  inputs = λ x used free. ap (λ env. get env x) is_env ∙ are_inputs parts is block entry txn empty x used free;
  only = subst (λ (env : Values). AreAmong env (txn_state parts.programs txn empty).env) (sym is_env) (arguments_stay parts is txn fits empty);
  rows = rows;
}
