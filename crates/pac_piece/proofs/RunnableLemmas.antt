-- The code of a piece of a plan can be run.
use Rattle.std.proofs.Common.{◌≡◌, ℕ, List, map, length, Option, Some, None, refl, sym, subst}
use Rattle.std.specs.Prelude.{slice_get, IsSomeAnd}
use Rattle.std.specs.Option.{option_map}
use Rattle.std.proofs.lemmas.Option.{slice_get-map}
use Rattle.std.proofs.Math.Seq.{take-length}
use Rattle.pac_value.specs.declared.values.Value.{Value}
use Rattle.pac_value.specs.Values.{type_of}
use Rattle.pac_value.specs.Expressions.{Values}
use Rattle.pac_value.specs.State.{Tables}
use Rattle.pac_ops.specs.declared.program.FlatOp.{FlatOp}
use Rattle.pac_ops.specs.declared.program.Program.{Program}
use Rattle.pac_ops.specs.declared.transaction.Call.{Call}
use Rattle.pac_ops.specs.declared.transaction.Txn.{Txn}
use Rattle.pac_ops.specs.declared.transaction.Txn.TheVariants.{Call as ACall, AdHoc}
use Rattle.pac_ops.specs.Shapes.{RowsFit}
use Rattle.pac_ops.specs.Operations.{State, opening}
use Rattle.pac_ops.specs.Flat.{flat_meaning}
use Rattle.pac_ops.specs.Effects.{NumberedOp, numbered_from}
use Rattle.pac_ops.specs.StaysFit.{IsFit, StaysFitAt}
use Rattle.pac_ops.specs.Transactions.{txn_state, call_state}
use Rattle.pac_ops.proofs.ProgramLemmas.{stays_fit, can}
use Rattle.pac_ops.proofs.StayLemmas.{Typable}
use Rattle.pac_base.specs.Members.{Each}
use Rattle.pac_base.proofs.TestLemmas.{each_mem}
use Rattle.pac_plan.specs.declared.code.Code.{Code}
use Rattle.pac_plan.specs.declared.parts.PlanParts.{PlanParts}
use Rattle.pac_plan.specs.Nodes.{Operation}
use Rattle.pac_plan.specs.Analysis.{IsPlan, block_in}
use Rattle.pac_plan.specs.Pieces.{part, InputsAre}
use Rattle.pac_plan.specs.Worlds.{ops_of}
use Rattle.pac_plan.specs.Codes.{TxnFitsPlan, code_in, piece_ops}
use Rattle.pac_plan.proofs.InputLemmas.{pieces_stay_fit}
use Rattle.pac_plan.proofs.OrderLemmas.{order_kept}
use Rattle.pac_plan.proofs.PartLemmas.{part-mem}
use Rattle.pac_plan.proofs.WorldLemmas.{stands}
use Rattle.pac_piece.specs.Frames.{AreAmong, CanRun}
use Rattle.pac_piece.specs.Values.{CanRunCode, state_over}
use Rattle.pac_piece.specs.Runnable.{IsRunnableOver}
use Rattle.pac_piece.proofs.FitLemmas.{can_run}

pub typable_ops : (parts : PlanParts) → IsPlan parts → (p : ℕ) (program : Program) → slice_get parts.programs p ≡ Some program → (block : ℕ)
    → Each (Typable parts.tables program.vars) (part (λ o. block_in parts (Operation p o.0)) block (numbered_from 0 program.ops))
typable_ops parts is p program at block = each_mem (Typable parts.tables program.vars) _ (λ o m.
    can parts.tables program (is.programs p program at) o.0 o.1 (stands parts (order_kept parts is) p program at o (part-mem (λ o. block_in parts (Operation p o.0)) block (numbered_from 0 program.ops) o m).0))

module _ (parts : PlanParts) (is : IsPlan parts) (p : ℕ) (program : Program) (at : slice_get parts.programs p ≡ Some program)
    (args : List Value) (before : Tables) (fits : map type_of args ≡ program.params) (before_fit : RowsFit parts.tables before) (block : ℕ) (s : State) where
  abbrev os : List NumberedOp
  os = part (λ o. block_in parts (Operation p o.0)) block (numbered_from 0 program.ops)

  pub stays : RowsFit parts.tables s.tables → AreAmong s.env (flat_meaning program.vars program.ops (opening args before)).env
      → InputsAre os (flat_meaning program.vars program.ops (opening args before)).env s.env → StaysFitAt parts.tables program.vars os s
  stays rows only inputs = pieces_stay_fit parts is p program at args before fits before_fit block s
      (record { rows = rows; types = λ x v e. end_fit.types x v (only x v e) }) inputs
    where
      end_fit : IsFit parts.tables program.vars (flat_meaning program.vars program.ops (opening args before))
      end_fit = subst (λ (ops : List FlatOp). IsFit parts.tables program.vars (flat_meaning program.vars ops (opening args before))) (take-length program.ops)
          (stays_fit parts.tables program (is.programs p program at) args before fits before_fit (length program.ops)).0

module _ (block : ℕ) (code : Code) (env : Values) (base : Tables) (r : IsRunnableOver block code env base) where
  -- its operations can be executed
  pub runnable : CanRunCode code (state_over env base)
  runnable = go r.txn r.fits r.code r.inputs r.only
    where
      call_runs : (call : Call) (o : Option Program) → slice_get r.parts.programs call.proc ≡ o → IsSomeAnd (option_map (λ (program : Program). program.params) o) (λ types. map type_of call.args ≡ types)
          → InputsAre (part (λ o. block_in r.parts (Operation call.proc o.0)) block (numbered_from 0 (ops_of o))) (call_state o call.args r.before).env env
          → AreAmong env (call_state o call.args r.before).env
          → CanRun (part (λ o. block_in r.parts (Operation call.proc o.0)) block (numbered_from 0 (ops_of o))) (state_over env base)
      call_runs call None at f i only = absurd f
      call_runs call (Some program) at f i only =
          can_run r.parts.tables program.vars _ (state_over env base)
          (typable_ops r.parts r.is_plan call.proc program at block)
          (stays r.parts r.is_plan call.proc program at call.args r.before f r.before_fit block (state_over env base) r.rows only i)

      go : (txn : Txn) → TxnFitsPlan r.parts txn → code ≡ code_in r.parts block txn
          → InputsAre (piece_ops r.parts block txn) (txn_state r.parts.programs txn r.before).env env → AreAmong env (txn_state r.parts.programs txn r.before).env
          → CanRunCode code (state_over env base)
      go (ACall call) fits is inputs only = subst (λ (c : Code). CanRunCode c (state_over env base)) (sym is)
          (call_runs call (slice_get r.parts.programs call.proc) refl
          (subst (λ o. IsSomeAnd o (λ types. map type_of call.args ≡ types)) (slice_get-map (λ (program : Program). program.params) r.parts.programs call.proc) fits) inputs only)
      go (AdHoc records) fits is inputs only = subst (λ (c : Code). CanRunCode c (state_over env base)) (sym is) tt
