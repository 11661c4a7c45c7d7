-- In a block to which no edge leads, what a transaction uses of other blocks are its arguments.
use Rattle.std.proofs.Common.{◌≡◌, ℕ, Bool, true, false, cond, ◌==◌, List, [], ◌∷◌, refl, sym, ap, ◌∙◌, subst, Option, Some, None, ◌⊎◌, inl, inr, ⊎_elim, arith}
use Rattle.std.specs.Prelude.{slice_get}
use Rattle.std.specs.FinMap.{get, empty}
use Rattle.pac_value.specs.State.{Tables}
use Rattle.pac_ops.specs.declared.program.Program.{Program}
use Rattle.pac_ops.specs.declared.transaction.Txn.{Txn}
use Rattle.pac_ops.specs.declared.transaction.Txn.TheVariants.{Call as ACall, AdHoc}
use Rattle.pac_ops.specs.Uses.{defined_variable}
use Rattle.pac_ops.specs.Operations.{opening, with_values}
use Rattle.pac_ops.specs.Transactions.{txn_state, call_state}
use Rattle.pac_ops.specs.Effects.{NumberedOp, numbered_from, is_var, defined_in}
use Rattle.pac_ops.proofs.DefinedLemmas.{undefined_meaning}
use Rattle.pac_ops.proofs.RecordLemmas.{whole_meaning}
use Rattle.pac_base.specs.Members.{Mem}
use Rattle.pac_base.proofs.TestLemmas.{any_mem, any_gives, equal_number, not_false, unlike}
use Rattle.pac_plan.specs.declared.parts.PlanParts.{PlanParts}
use Rattle.pac_plan.specs.Pieces.{part}
use Rattle.pac_plan.specs.Worlds.{ops_of, txn_code, txn_block, txn_args}
use Rattle.pac_plan.specs.Codes.{ArgumentsAreInputs}
use Rattle.pac_plan.proofs.OrderLemmas.{order_kept}
use Rattle.pac_plan.proofs.WorldLemmas.{has-edge, well_formed_world}

-- an operation stands in the part of its block
kept : (block : NumberedOp → ℕ) (o : NumberedOp) (os : List NumberedOp) → Mem o os → Mem o (part block (block o) os)
kept block o [] m = elim m [ ]
kept block o (d ∷ os) m = go (block d == block o) refl m (kept block o os)
  where
    go : (b : Bool) → (block d == block o) ≡ b → (o ≡ d) ⊎ Mem o os → (Mem o os → Mem o (part block (block o) os)) → Mem o (cond b (d ∷ part block (block o) os) (part block (block o) os))
    go true e (inl same) rest = inl same
    go true e (inr behind) rest = inr (rest behind)
    go false e (inl same) rest = absurd (not_false _ e (equal_number (block d) (block o) (ap block (sym same))))
    go false e (inr behind) rest = rest behind

-- a variable that is defined is defined in some block
somewhere : (block : NumberedOp → ℕ) (os : List NumberedOp) (x : ℕ) → defined_in os x ≡ true → (b : ℕ) × (defined_in (part block b os) x ≡ true)
somewhere block os x e =
    let o = any_gives (λ (o : NumberedOp). is_var x (defined_variable o.1.kind)) os e in
    (block o.0, any_mem (λ (o : NumberedOp). is_var x (defined_variable o.1.kind)) o.0 (part block (block o.0) os) (kept block o.0 os o.1) o.2)

-- a variable that a transaction does not define keeps the value of its argument
unset : (parts : PlanParts) (txn : Txn) (rows : Tables) (x : ℕ) → defined_in (txn_code parts (Some txn)) x ≡ false
    → get (with_values 0 (txn_args (Some txn)) empty) x ≡ get (txn_state parts.programs txn rows).env x
unset parts (AdHoc records) rows x e = refl
unset parts (ACall call) rows x e = go (slice_get parts.programs call.proc) e
  where
    go : (o : Option Program) → defined_in (numbered_from 0 (ops_of o)) x ≡ false → get (with_values 0 call.args empty) x ≡ get (call_state o call.args rows).env x
    go None e = refl
    go (Some program) e = sym (ap (λ s. get s.env x) (sym (whole_meaning program.vars 0 program.ops (opening call.args rows)))
        ∙ undefined_meaning program.vars (numbered_from 0 program.ops) (opening call.args rows) x e)

pub arguments_are_inputs : ArgumentsAreInputs
arguments_are_inputs parts is_plan block none txn rows x used free =
    let placed = txn_block parts (Some txn) in
    let code = txn_code parts (Some txn) in
    let well = well_formed_world parts (order_kept parts is_plan) 0 (λ t. 0) (λ t u lt. omega arith) (txn ∷ []) in
    unset parts txn rows x (unlike (defined_in code x) (λ defined.
    let b = somewhere placed code x defined in
    ⊎_elim
    (λ same. not_false _ free (subst (λ k. defined_in (part placed k code) x ≡ true) same b.1))
    (λ edge. none b.0 (has-edge parts b.0 block edge))
    (well.flows 0 b.0 block x b.1 used)))
