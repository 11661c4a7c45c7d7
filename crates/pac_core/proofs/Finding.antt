-- What a piece finds and leaves, by the lists of its inputs and its outputs.
use Rattle.std.proofs.Common.{◌≡◌, ◌↔◌, ℕ, ◌+◌, Bool, true, false, cond, not, ◌&&◌, List, [], ◌∷◌, map, None, Some, refl, ap, sym, ◌∙◌, true≢false, inl, inr}
use Rattle.std.specs.Prelude.{Contains}
use Rattle.std.specs.FinMap.{get}
use Rattle.pac_value.specs.Expressions.{Values}
use Rattle.pac_base.specs.Members.{Mem}
use Rattle.pac_base.proofs.TestLemmas.{any_gives, unlike}
use Rattle.pac_ops.specs.declared.transaction.Change.{Change}
use Rattle.pac_ops.specs.declared.transaction.Txn.{Txn}
use Rattle.pac_ops.specs.declared.transaction.Txn.TheVariants.{AdHoc}
use Rattle.pac_ops.specs.Uses.{op_uses}
use Rattle.pac_ops.specs.Effects.{NumberedOp, defined_in, numbered_from, record_op, used_in}
use Rattle.pac_plan.specs.Analysis.{IsPlan}
use Rattle.pac_plan.specs.Codes.{piece_ops}
use Rattle.pac_plan.specs.Worlds.{txn_block, txn_code}
use Rattle.pac_plan.proofs.OrderLemmas.{order_kept}
use Rattle.pac_plan.proofs.PartLemmas.{part-mem}
use Rattle.pac_plan.proofs.WorldLemmas.{record_uses}
use Rattle.pac_plan.specs.declared.parts.PlanParts.{PlanParts}
use Rattle.pac_commute.specs.Works.{given_over}
use Rattle.pac_core.specs.Inputs.{FindsInputs, LeavesValues, is_found, is_passed_on}
use Rattle.pac_value.specs.Restricted.{HasOnly}
use Rattle.pac_core.specs.Values.{GivesTo}

-- an operation of records is a record's
op_of : (n : ℕ) (cs : List Change) (o : NumberedOp) → Mem o (numbered_from n (map record_op cs)) → (c : Change) × (o.1 ≡ record_op c)
unfolding numbered_from
op_of n [] o m = absurd m
op_of n (c ∷ cs) o (inl e) = (c, ap (λ (x : NumberedOp). x.1) e)
op_of n (c ∷ cs) o (inr m) = op_of (n + 1) cs o m

-- records use no variable, so that an ad hoc transaction finds no value
pub records_find : (parts : PlanParts) → IsPlan parts → (block : ℕ) (records : List Change) (x : ℕ) → is_found parts block (AdHoc records) x ≡ false
records_find parts is block records x = ap (λ b. b && not (defined_in (piece_ops parts block (AdHoc records)) x)) (unlike (used_in (piece_ops parts block (AdHoc records)) x) (λ h.
    let o = any_gives (λ (o : NumberedOp). op_uses x o.1) (piece_ops parts block (AdHoc records)) h in
    let in_all = (part-mem (txn_block parts (Some (AdHoc records))) block (txn_code parts (Some (AdHoc records))) o.0 o.1).0 in
    let c = op_of 0 records o.0 in_all in
    true≢false (sym o.2 ∙ ap (op_uses x) c.1 ∙ record_uses parts (order_kept parts is) c.0 x)))

module _ (parts : PlanParts) (block : ℕ) (txn : Txn) (vars : List ℕ) (kept env : Values) where
  pub finds_of : ((x : ℕ) → Contains vars x ↔ (is_found parts block txn x ≡ true)) → HasOnly vars kept env → FindsInputs parts block txn kept env
  finds_of are has x = go (is_found parts block txn x) refl
    where
      go : (b : Bool) → is_found parts block txn x ≡ b → get env x ≡ cond b (get kept x) None
      go true e = has.own x ((are x).1 e)
      go false e = has.none x (λ c. true≢false (sym ((are x).0 c) ∙ e))

  pub leaves_of : (outs : Values) → ((x : ℕ) → Contains vars x ↔ (is_passed_on parts block txn x ≡ true)) → GivesTo vars outs kept env → LeavesValues parts block txn outs kept env
  leaves_of outs are has x = go (is_passed_on parts block txn x) refl
    where
      go : (b : Bool) → is_passed_on parts block txn x ≡ b → get env x ≡ cond b (given_over (get outs x) (get kept x)) (get kept x)
      go true e = has.own x ((are x).1 e)
      go false e = has.others x (λ c. true≢false (sym ((are x).0 c) ∙ e))

  -- what finds has those alone
  pub has_of : ((x : ℕ) → Contains vars x ↔ (is_found parts block txn x ≡ true)) → FindsInputs parts block txn kept env → HasOnly vars kept env
  has_of are finds = record {
    own = λ x c. finds x ∙ ap (λ b. cond b (get kept x) None) ((are x).0 c);
    none = λ x n. finds x ∙ ap (λ b. cond b (get kept x) None) (unlike (is_found parts block txn x) (λ t. n ((are x).1 t)));
  }
