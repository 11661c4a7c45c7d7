-- The values that code gives are those that the flat meaning of its piece gives.
use Rattle.std.proofs.Common.{◌≡◌, ℕ, ◌+◌, ◌==◌, Bool, true, false, cond, List, [], ◌∷◌, ◌++◌, map, Option, Some, None, refl, sym, ap, ap₂, ◌∙◌, subst, ⊎_elim}
use Rattle.std.specs.Prelude.{slice_get, is_some, IsSomeAnd}
use Rattle.std.specs.FinMap.{get}
use Rattle.std.specs.Option.{option_map}
use Rattle.std.proofs.lemmas.Option.{slice_get-map}
use Rattle.pac_value.specs.declared.values.Ty.{Ty}
use Rattle.pac_value.specs.declared.values.Value.{Value}
use Rattle.pac_value.specs.Values.{type_of}
use Rattle.pac_ops.specs.declared.program.Program.{Program}
use Rattle.pac_ops.specs.declared.shapes.TableTypes.{TableTypes}
use Rattle.pac_ops.specs.declared.transaction.Call.{Call}
use Rattle.pac_ops.specs.declared.transaction.Change.{Change}
use Rattle.pac_ops.specs.declared.transaction.Change.TheVariants.{Put as PutRow, Delete as DeleteRow}
use Rattle.pac_ops.specs.declared.transaction.Txn.{Txn}
use Rattle.pac_ops.specs.declared.transaction.Txn.TheVariants.{Call as ACall, AdHoc}
use Rattle.pac_ops.specs.Uses.{accessed_table, defined_variable}
use Rattle.pac_ops.specs.Flat.{all_hold, flat_done}
use Rattle.pac_ops.specs.Operations.{State}
use Rattle.pac_ops.specs.Effects.{NumberedOp, is_var, numbered_from, numbered_meaning, record_op}
use Rattle.pac_ops.proofs.StayLemmas.{Typable}
use Rattle.pac_base.specs.Members.{Each}
use Rattle.pac_base.proofs.TestLemmas.{eq_self, or_cases, or_left, or_right, same_number}
use Rattle.pac_plan.specs.declared.parts.PlanParts.{PlanParts}
use Rattle.pac_plan.specs.Nodes.{Operation}
use Rattle.pac_plan.specs.Analysis.{IsPlan, block_in}
use Rattle.pac_plan.specs.Pieces.{part}
use Rattle.pac_plan.specs.PieceFits.{records_in}
use Rattle.pac_plan.specs.Worlds.{ops_of, types_in, home_or, txn_vars}
use Rattle.pac_plan.specs.Codes.{TxnFitsPlan, code_in, code_ops, piece_ops}
use Rattle.pac_piece.specs.Frames.{after_op, give_value, var_given}
use Rattle.pac_piece.specs.Values.{code_end, state_over}
use Rattle.pac_piece.specs.PieceLaws.{GivesAsMeant, IsGivenIn}
use Rattle.pac_piece.proofs.FitLemmas.{same_op}
use Rattle.pac_piece.proofs.MeaningLemmas.{code_means_piece}
use Rattle.pac_piece.proofs.RunnableLemmas.{typable_ops}

var_here : (b : Bool) (d : Option ℕ) (x : ℕ) → is_var x (cond b d None) ≡ true → (b ≡ true) × (d ≡ Some x)
var_here true None x h = cc
var_here true (Some y) x h = (refl, ap (λ z. Some z) (sym (same_number x y h)))
var_here false d x h = cc

each_at : {A : Type 0} (R : A → Type 0) (before : List A) (a : A) (after : List A) → Each R (before ++ a ∷ after) → R a
each_at R [] a after each = each.0
each_at R (b ∷ before) a after each = each_at R before a after each.1

-- ---- operations whose types are those of a program

module _ (tables : List TableTypes) (vars : List Ty) where
  given_in : (os : List NumberedOp) (s : State) (x : ℕ) → Each (Typable tables vars) os → give_value os s x ≡ true → IsGivenIn vars os s x
  unfolding numbered_meaning
  given_in [] s x each g = cc
  given_in (o ∷ os) s x each g =
      ⊎_elim
      (λ here.
      let at = var_here (all_hold s.env o.1.conds) (defined_variable o.1.kind) x here in
      record { before = []; op = o; after = os; split = refl; holds = at.0; defines = at.1 })
      (λ later.
      let i = given_in os (flat_done vars o.1 s) x each.1 (ap (λ (t : State). give_value os t x) (sym (same_op tables vars o s each.0)) ∙ later) in
      record { before = o ∷ i.before; op = i.op; after = i.after; split = ap (λ (l : List NumberedOp). o ∷ l) i.split; holds = i.holds; defines = i.defines })
      (or_cases (is_var x (var_given o.1 s)) (give_value os (after_op o.1 s) x) g)

  gives_in : (before : List NumberedOp) (op : NumberedOp) (after : List NumberedOp) (s : State) (x : ℕ) → Each (Typable tables vars) (before ++ op ∷ after)
      → all_hold (numbered_meaning vars before s).env op.1.conds ≡ true → defined_variable op.1.kind ≡ Some x → give_value (before ++ op ∷ after) s x ≡ true
  unfolding numbered_meaning
  gives_in [] op after s x each holds defines = or_left (is_var x (var_given op.1 s)) (give_value after (after_op op.1 s) x) (ap₂ (λ b d. is_var x (cond b d None)) holds defines ∙ eq_self x)
  gives_in (b ∷ before) op after s x each holds defines = or_right (is_var x (var_given b.1 s)) (give_value (before ++ op ∷ after) (after_op b.1 s) x)
      (ap (λ (t : State). give_value (before ++ op ∷ after) t x) (same_op tables vars b s each.0) ∙ gives_in before op after (flat_done vars b.1 s) x each.1 holds defines)

  gives : (os : List NumberedOp) (s : State) (x : ℕ) → Each (Typable tables vars) os → IsGivenIn vars os s x → give_value os s x ≡ true
  gives os s x each i = ap (λ (l : List NumberedOp). give_value l s x) i.split ∙ gives_in i.before i.op i.after s x (subst (Each (Typable tables vars)) i.split each) i.holds i.defines

-- ---- records give nothing

records_give : (n : ℕ) (cs : List Change) (s : State) (x : ℕ) → give_value (numbered_from n (map record_op cs)) s x ≡ false
unfolding numbered_from
records_give n [] s x = refl
records_give n (PutRow table key row ∷ cs) s x = records_give (n + 1) cs (after_op (record_op (PutRow table key row)) s) x
records_give n (DeleteRow table key ∷ cs) s x = records_give (n + 1) cs (after_op (record_op (DeleteRow table key)) s) x

record_defines : (c : Change) → defined_variable (record_op c).kind ≡ None
record_defines (PutRow table key row) = refl
record_defines (DeleteRow table key) = refl

records_define : (parts : PlanParts) (b n : ℕ) (cs : List Change)
    → Each (λ (o : NumberedOp). defined_variable o.1.kind ≡ None) (part (λ o. home_or parts (accessed_table o.1.kind)) b (numbered_from n (map record_op cs)))
unfolding numbered_from
records_define parts b n [] = tt
records_define parts b n (c ∷ cs) = go (home_or parts (accessed_table (record_op c).kind) == b) (records_define parts b (n + 1) cs)
  where
    go : (h : Bool) → Each (λ (o : NumberedOp). defined_variable o.1.kind ≡ None) (part (λ o. home_or parts (accessed_table o.1.kind)) b (numbered_from (n + 1) (map record_op cs)))
        → Each (λ (o : NumberedOp). defined_variable o.1.kind ≡ None)
        (cond h ((n, record_op c) ∷ part (λ o. home_or parts (accessed_table o.1.kind)) b (numbered_from (n + 1) (map record_op cs))) (part (λ o. home_or parts (accessed_table o.1.kind)) b (numbered_from (n + 1) (map record_op cs))))
    go true later = (record_defines c, later)
    go false later = later

-- ---- the code of a transaction in a block

module _ (parts : PlanParts) (is : IsPlan parts) (block : ℕ) (s : State) (x : ℕ) where
  abbrev ops_at : Call → Option Program → List NumberedOp
  ops_at call o = part (λ o. block_in parts (Operation call.proc o.0)) block (numbered_from 0 (ops_of o))

  abbrev Both : List Ty → List NumberedOp → List NumberedOp → Type 0
  Both vars code ops = (give_value code s x ≡ true → IsGivenIn vars ops s x) × (IsGivenIn vars ops s x → give_value code s x ≡ true)

  call_both : (call : Call) (o : Option Program) → slice_get parts.programs call.proc ≡ o → IsSomeAnd (option_map (λ (program : Program). program.params) o) (λ types. map type_of call.args ≡ types)
      → Both (types_in o) (ops_at call o) (ops_at call o)
  call_both call None at f = absurd f
  call_both call (Some program) at f =
      let each = typable_ops parts is call.proc program at block in
      (given_in parts.tables program.vars _ s x each, gives parts.tables program.vars _ s x each)

  both : (txn : Txn) → TxnFitsPlan parts txn → Both (txn_vars parts (Some txn)) (code_ops (code_in parts block txn)) (piece_ops parts block txn)
  both (ACall call) fits = call_both call (slice_get parts.programs call.proc) refl
      (subst (λ o. IsSomeAnd o (λ types. map type_of call.args ≡ types)) (slice_get-map (λ (program : Program). program.params) parts.programs call.proc) fits)
  both (AdHoc records) fits = (
    (λ g. absurd (never (sym (records_give 0 (records_in parts block records) s x) ∙ g))),
    (λ i. absurd (none (sym (each_at (λ (o : NumberedOp). defined_variable o.1.kind ≡ None) i.before i.op i.after
        (subst (Each (λ (o : NumberedOp). defined_variable o.1.kind ≡ None)) i.split (records_define parts block 0 records))) ∙ i.defines))),
  )
    where
      never : false ≡ true → ⊥
      never e = cc

      none : ◌≡◌ {A = Option ℕ} None (Some x) → ⊥
      none e = cc

pub gives_as_meant : GivesAsMeant
gives_as_meant parts is txn fits block number env base writes outs least_note v x w = (
  (λ e. (same.0 (sym (v.vars x) ∙ ap (λ (o : Option Value). is_some o) e), ap (λ (t : State). get t.env x) (sym means) ∙ v.values x w e)),
  (λ given. found (get outs x) refl (v.vars x ∙ same.1 given.0) given.1),
)
  where
    s : State
    s = state_over env base

    means : code_end (code_in parts block txn) env base ≡ numbered_meaning (txn_vars parts (Some txn)) (piece_ops parts block txn) s
    means = (code_means_piece parts is txn fits block number s).0

    same : (give_value (code_ops (code_in parts block txn)) s x ≡ true → IsGivenIn (txn_vars parts (Some txn)) (piece_ops parts block txn) s x)
        × (IsGivenIn (txn_vars parts (Some txn)) (piece_ops parts block txn) s x → give_value (code_ops (code_in parts block txn)) s x ≡ true)
    same = both parts is block s x txn fits

    found : (o : Option Value) → get outs x ≡ o → is_some o ≡ true → get (numbered_meaning (txn_vars parts (Some txn)) (piece_ops parts block txn) s).env x ≡ Some w → get outs x ≡ Some w
    found None at t e = cc
    found (Some u) at t e = at ∙ sym (v.values x u at) ∙ ap (λ (t : State). get t.env x) means ∙ e
