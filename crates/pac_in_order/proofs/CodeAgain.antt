-- The code of a piece that runs again, over values that the first of its operations gave already, gives the same.
use Rattle.std.proofs.Common.{◌≡◌, ℕ, zero, suc, ◌+◌, Bool, true, false, List, [], ◌∷◌, map, take, Option, Some, None, refl, sym, ap, ◌∙◌, subst, true≢false}
use Rattle.std.specs.Prelude.{slice_get, IsSomeAnd}
use Rattle.std.specs.FinMap.{get}
use Rattle.std.specs.Option.{option_map}
use Rattle.std.proofs.lemmas.Option.{slice_get-map}
use Rattle.pac_value.specs.declared.values.Value.{Value}
use Rattle.pac_value.specs.Values.{type_of}
use Rattle.pac_ops.specs.declared.program.Program.{Program}
use Rattle.pac_ops.specs.declared.transaction.Change.{Change}
use Rattle.pac_ops.specs.declared.transaction.Txn.{Txn}
use Rattle.pac_ops.specs.declared.transaction.Txn.TheVariants.{Call as ACall, AdHoc}
use Rattle.pac_ops.specs.Operations.{State}
use Rattle.pac_ops.specs.Effects.{NumberedOp, numbered_from, numbered_meaning, numbered_notes, record_op, defined_in}
use Rattle.pac_ops.proofs.StayLemmas.{Typable}
use Rattle.pac_base.specs.Members.{Each}
use Rattle.pac_plan.specs.declared.parts.PlanParts.{PlanParts}
use Rattle.pac_plan.specs.Nodes.{Operation}
use Rattle.pac_plan.specs.Analysis.{IsPlan, block_in}
use Rattle.pac_plan.specs.Pieces.{has_ops, part}
use Rattle.pac_plan.specs.PieceFits.{records_in}
use Rattle.pac_plan.specs.Worlds.{ops_of}
use Rattle.pac_plan.specs.Codes.{TxnFitsPlan, code_in, code_ops, piece_ops}
use Rattle.pac_piece.specs.Frames.{after_op, after_ops, notes_after}
use Rattle.pac_piece.proofs.FitLemmas.{same_meaning, same_notes}
use Rattle.pac_piece.proofs.RunLemmas.{record_after}
use Rattle.pac_piece.proofs.RunnableLemmas.{typable_ops}
use Rattle.pac_in_order.proofs.Again.{OnceEach, over, all_again, notes_again, first_again, first_stand, first_keep}
use Rattle.pac_in_order.proofs.OnceEach.{call_once}

-- what is said of operations that run again
pub record RunsAgain (os : List NumberedOp) (defined : ℕ → Bool) : Type 0 where
  pub end : (n : ℕ) (s : State) → after_ops os (over (after_ops (take n os) s).env s) ≡ after_ops os s
  pub notes : (txn n : ℕ) (s : State) → notes_after txn os (over (after_ops (take n os) s).env s) ≡ notes_after txn os s
  pub first : (m n : ℕ) (s : State) → (k : ℕ) × ((after_ops (take n os) (over (after_ops (take m os) s).env s)).env ≡ (after_ops (take k os) s).env)
  pub stand : (n : ℕ) (s : State) → ((x : ℕ) → defined x ≡ true → get s.env x ≡ None) → (x : ℕ) (v : Value) → get (after_ops (take n os) s).env x ≡ Some v → get (after_ops os s).env x ≡ Some v
  pub kept : (n : ℕ) (s : State) (x : ℕ) → defined x ≡ false → get (after_ops (take n os) s).env x ≡ get s.env x

each_first : {A : Type 0} (R : A → Type 0) (n : ℕ) (xs : List A) → Each R xs → Each R (take n xs)
each_first R zero xs each = tt
each_first R (suc n) [] each = tt
each_first R (suc n) (x ∷ xs) each = (each.0, each_first R n xs each.1)

-- records give no values
records_keep : (n m : ℕ) (cs : List Change) (s : State) → (after_ops (take n (numbered_from m (map record_op cs))) s).env ≡ s.env
unfolding numbered_from
records_keep zero m cs s = refl
records_keep (suc n) m [] s = refl
records_keep (suc n) m (c ∷ cs) s = records_keep n (m + 1) cs (after_op (record_op c) s) ∙ ap (λ (z : State). z.env) (record_after c s)

records_keep_all : (m : ℕ) (cs : List Change) (s : State) → (after_ops (numbered_from m (map record_op cs)) s).env ≡ s.env
unfolding numbered_from
records_keep_all m [] s = refl
records_keep_all m (c ∷ cs) s = records_keep_all (m + 1) cs (after_op (record_op c) s) ∙ ap (λ (z : State). z.env) (record_after c s)

records_again : (cs : List Change) (defined : ℕ → Bool) → RunsAgain (numbered_from 0 (map record_op cs)) defined
records_again cs defined = record {
  end = λ n s. ap (λ env. after_ops os (over env s)) (records_keep n 0 cs s);
  notes = λ txn n s. ap (λ env. notes_after txn os (over env s)) (records_keep n 0 cs s);
  first = λ m n s. (zero, records_keep n 0 cs (over (after_ops (take m os) s).env s) ∙ records_keep m 0 cs s);
  stand = λ n s fresh x v e. ap (λ env. get env x) (records_keep_all 0 cs s ∙ sym (records_keep n 0 cs s)) ∙ e;
  kept = λ n s x none. ap (λ env. get env x) (records_keep n 0 cs s);
}
  where
    os : List NumberedOp
    os = numbered_from 0 (map record_op cs)

module _ (parts : PlanParts) (is : IsPlan parts) (block : ℕ) where
  abbrev ops_at : ℕ → Option Program → List NumberedOp
  ops_at p o = part (λ o. block_in parts (Operation p o.0)) block (numbered_from 0 (ops_of o))

  abbrev proc_of : ℕ → Program → List NumberedOp
  proc_of p program = ops_at p (Some program)

  call_again : (p : ℕ) (program : Program) → slice_get parts.programs p ≡ Some program → RunsAgain (proc_of p program) (λ x. defined_in (proc_of p program) x)
  call_again p program at = record {
    end = λ n s. ap (λ (z : State). after_ops os (over z.env s)) (firsts n s) ∙ all (over (numbered_meaning program.vars (take n os) s).env s) ∙ all_again program.vars n os once s ∙ sym (all s);
    notes = λ txn n s. ap (λ (z : State). notes_after txn os (over z.env s)) (firsts n s) ∙ noted txn (over (numbered_meaning program.vars (take n os) s).env s) ∙ notes_again program.vars txn n os once s ∙ sym (noted txn s);
    first = λ m n s. let k = first_again program.vars m n os once s in
        (k.0, ap (λ (z : State). (after_ops (take n os) (over z.env s)).env) (firsts m s) ∙ ap (λ (z : State). z.env) (firsts n (over (numbered_meaning program.vars (take m os) s).env s)) ∙ k.1 ∙ ap (λ (z : State). z.env) (sym (firsts k.0 s)));
    stand = λ n s fresh x v e. ap (λ (z : State). get z.env x) (all s) ∙ first_stand program.vars n os once s fresh x v (ap (λ (z : State). get z.env x) (sym (firsts n s)) ∙ e);
    kept = λ n s x none. ap (λ (z : State). get z.env x) (firsts n s) ∙ first_keep program.vars n os s x none;
  }
    where
      os : List NumberedOp
      os = proc_of p program

      once : OnceEach os
      once = call_once parts is p program at block

      typed : Each (Typable parts.tables program.vars) os
      typed = typable_ops parts is p program at block

      all : (s : State) → after_ops os s ≡ numbered_meaning program.vars os s
      all s = same_meaning parts.tables program.vars os s typed

      firsts : (n : ℕ) (s : State) → after_ops (take n os) s ≡ numbered_meaning program.vars (take n os) s
      firsts n s = same_meaning parts.tables program.vars (take n os) s (each_first (Typable parts.tables program.vars) n os typed)

      noted : (txn : ℕ) (s : State) → notes_after txn os s ≡ numbered_notes program.vars txn os s
      noted txn s = same_notes parts.tables program.vars txn os s typed

  -- the code of a transaction that fits the plan
  pub code_again : (txn : Txn) → TxnFitsPlan parts txn → RunsAgain (code_ops (code_in parts block txn)) (λ x. defined_in (piece_ops parts block txn) x)
  code_again (AdHoc records) fits = records_again (records_in parts block records) (λ x. defined_in (piece_ops parts block (AdHoc records)) x)
  code_again (ACall call) fits = go (slice_get parts.programs call.proc) refl
      (subst (λ o. IsSomeAnd o (λ types. map type_of call.args ≡ types)) (slice_get-map (λ (program : Program). program.params) parts.programs call.proc) fits)
    where
      go : (o : Option Program) → slice_get parts.programs call.proc ≡ o → IsSomeAnd (option_map (λ (program : Program). program.params) o) (λ types. map type_of call.args ≡ types)
          → RunsAgain (ops_at call.proc o) (λ x. defined_in (ops_at call.proc o) x)
      go None at f = absurd f
      go (Some program) at f = call_again call.proc program at

-- where a transaction has no operations in a block, its code there gives no values
pub none_give : (parts : PlanParts) (block : ℕ) (txn : Txn) → has_ops (piece_ops parts block txn) ≡ false → (n : ℕ) (s : State) → (after_ops (take n (code_ops (code_in parts block txn))) s).env ≡ s.env
none_give parts block (AdHoc records) none n s = records_keep n 0 (records_in parts block records) s
none_give parts block (ACall call) none n s = go (piece_ops parts block (ACall call)) none n
  where
    go : (os : List NumberedOp) → has_ops os ≡ false → (n : ℕ) → (after_ops (take n os) s).env ≡ s.env
    go [] e zero = refl
    go [] e (suc n) = refl
    go (o ∷ os) e n = absurd (true≢false e)
