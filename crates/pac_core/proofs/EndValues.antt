-- What a piece leaves among all values at its end: those that it gives for others, since it finds none of them.
use Rattle.std.proofs.Common.{◌≡◌, ℕ, Bool, true, false, cond, ◌&&◌, not, List, Option, Some, None, refl, sym, ap, ◌∙◌}
use Rattle.std.specs.Prelude.{is_some}
use Rattle.std.specs.FinMap.{get}
use Rattle.pac_base.proofs.TestLemmas.{and_left}
use Rattle.pac_value.specs.declared.values.Value.{Value}
use Rattle.pac_value.specs.Expressions.{Values}
use Rattle.pac_value.specs.State.{Tables}
use Rattle.pac_ops.specs.declared.note.Note.{Note}
use Rattle.pac_ops.specs.declared.transaction.Txn.{Txn}
use Rattle.pac_ops.specs.declared.transaction.Txn.TheVariants.{Call as ACall, AdHoc}
use Rattle.pac_ops.specs.Effects.{defined_in, used_in}
use Rattle.pac_plan.specs.declared.parts.PlanParts.{PlanParts}
use Rattle.pac_plan.specs.Codes.{code_in, code_ops, proc_ops}
use Rattle.pac_tables.specs.declared.writes.Write.{Write}
use Rattle.pac_piece.specs.Frames.{give_value}
use Rattle.pac_piece.specs.Values.{IsEndOver, state_over}
use Rattle.pac_piece.proofs.KeptLemmas.{none_given_stays}
use Rattle.pac_keys.specs.Interfaces.{is_used_outside}
use Rattle.pac_commute.specs.Works.{given_over}
use Rattle.pac_core.specs.Inputs.{FindsInputs, LeavesValues, is_found, is_passed_on}

-- a variable that is passed on is no input
none_found : (parts : PlanParts) (block : ℕ) (txn : Txn) (x : ℕ) → is_passed_on parts block txn x ≡ true → is_found parts block txn x ≡ false
none_found parts block (AdHoc records) x passed = cc
none_found parts block (ACall call) x passed =
    go (used_in (proc_ops parts call.proc block) x) (defined_in (proc_ops parts call.proc block) x) (and_left (defined_in (proc_ops parts call.proc block) x) (is_used_outside parts call.proc block x) passed)
  where
    go : (used defined : Bool) → defined ≡ true → (used && not defined) ≡ false
    go true true e = refl
    go false true e = refl
    go used false e = cc

module _ (parts : PlanParts) (block : ℕ) (txn : Txn) (kept env : Values) (finds : FindsInputs parts block txn kept env)
    (number : ℕ) (base : Tables) (writes : List Write) (all : Values) (note : Option Note) (end : IsEndOver number (code_in parts block txn) env base writes all note) where
  -- a value that is passed on is the one at the end
  passed_value : (x : ℕ) → is_passed_on parts block txn x ≡ true → get all x ≡ get end.outs x
  passed_value x passed = go (give_value (code_ops (code_in parts block txn)) (state_over env base) x) refl
    where
      at_end : (o : Option Value) → get end.outs x ≡ o → is_some o ≡ true → get all x ≡ get end.outs x
      at_end None e some = cc
      at_end (Some v) e some = ap (λ (m : Values). get m x) end.all_are ∙ end.value.values x v e ∙ sym e

      none : (o : Option Value) → get end.outs x ≡ o → is_some o ≡ false → o ≡ None
      none None e f = refl
      none (Some v) e f = cc

      go : (b : Bool) → give_value (code_ops (code_in parts block txn)) (state_over env base) x ≡ b → get all x ≡ get end.outs x
      go true given = at_end (get end.outs x) refl (end.value.vars x ∙ given)
      go false given =
          ap (λ (m : Values). get m x) end.all_are ∙ none_given_stays (code_ops (code_in parts block txn)) (state_over env base) x given
          ∙ finds x ∙ ap (λ b. cond b (get kept x) None) (none_found parts block txn x passed) ∙ sym (none (get end.outs x) refl (end.value.vars x ∙ given))

  -- what is kept where all are given
  pub leaves_passed : (before now : Values) → LeavesValues parts block txn all before now → LeavesValues parts block txn end.outs before now
  leaves_passed before now leaves x = leaves x ∙ go (is_passed_on parts block txn x) refl
    where
      go : (b : Bool) → is_passed_on parts block txn x ≡ b → cond b (given_over (get all x) (get before x)) (get before x) ≡ cond b (given_over (get end.outs x) (get before x)) (get before x)
      go true e = ap (λ o. given_over o (get before x)) (passed_value x e)
      go false e = refl
