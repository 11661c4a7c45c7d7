-- The operations of a piece one after another.
use Rattle.std.proofs.Common.{◌≡◌, ℕ, Bool, true, false, ◌||◌, List, [], ◌∷◌, map, Option, Some, None, Result, Ok, refl, sym, ap, ap₂, ◌∙◌, subst}
use Rattle.pac_value.specs.declared.values.Key.{Key}
use Rattle.pac_value.specs.declared.values.Key.TheVariants.{Int as IntKey, Text as TextKey}
use Rattle.pac_value.specs.declared.values.Value.{Value}
use Rattle.pac_value.specs.declared.expr.Expr.{Lit}
use Rattle.pac_value.specs.declared.expr.Trap.{Trap}
use Rattle.pac_value.specs.Values.{key_value, as_key}
use Rattle.pac_value.specs.Expressions.{Values, value_step, ◌>>=◌}
use Rattle.pac_value.specs.State.{RowValues, Tables}
use Rattle.pac_value.proofs.ByForms.{fold-Lit}
use Rattle.pac_ops.specs.declared.transaction.Change.{Change}
use Rattle.pac_ops.specs.declared.transaction.Change.TheVariants.{Put as PutRow, Delete as DeleteRow}
use Rattle.pac_ops.specs.Reasons.{or_abort}
use Rattle.pac_ops.specs.Notes.{note_at, first_note, least}
use Rattle.pac_ops.specs.Operations.{State, Leaves, values, touched, effect, row_at, with_effect, done}
use Rattle.pac_ops.specs.Transactions.{with_change}
use Rattle.pac_ops.specs.Flat.{flat_reason, reason_in}
use Rattle.pac_ops.specs.Effects.{NumberedOp, record_op}
use Rattle.pac_ops.proofs.StateLemmas.{least_none, least-assoc, first-append}
use Rattle.pac_tables.specs.declared.writes.Write.{Write}
use Rattle.pac_tables.specs.Written.{IsOnce, is_written, written}
use Rattle.pac_plan.specs.Codes.{code_ops}
use Rattle.pac_plan.specs.declared.code.Code.{Code}
use Rattle.pac_piece.specs.Values.{IsOutcomeOver, state_over}
use Rattle.pac_piece.specs.declared.frame.Frame.{Frame}
use Rattle.pac_piece.specs.Frames.{state_seen, done_or_defaulted, after_op, after_ops, notes_after, change_row, cell_changed, var_given, is_cell, Keeps, KeepsAll, StepsTo, RunsTo, RunsOn, IsFreshFrame}
use Rattle.pac_piece.specs.Records.{record_cell, record_row, ChangesOne}
use Rattle.pac_piece.proofs.StepLemmas.{stepped}

or-shift : (c w r : Bool) → ((c || w) || r) ≡ (w || (c || r))
or-shift true true r = refl
or-shift true false r = refl
or-shift false w r = refl

or-none : (b : Bool) → (b || false) ≡ b
or-none true = refl
or-none false = refl

module _ {K : Type 0} (Adds : K → ℕ → Value → K → Type 0) (base : Tables) (txn : ℕ) where
  -- nothing was executed
  pub starts : (os : List NumberedOp) (frame : Frame K) → IsFreshFrame frame → RunsOn Adds base txn os (state_seen base frame) frame.outs os frame
  starts os frame fresh = record {
    state = refl;
    note = ap (λ n. least n (first_note (notes_after txn os (state_seen base frame)))) fresh.note;
    changed = λ a. ap (λ ws. is_written ws a || change_row os (state_seen base frame) a) fresh.writes;
    kept = λ new all. all;
    once = subst (λ ws. IsOnce ws) (sym fresh.writes) tt;
  }

  -- one more was
  pub goes_on : (os : List NumberedOp) (s : State) (outs : K) (o : NumberedOp) (rest : List NumberedOp) (old new : Frame K) → RunsOn Adds base txn os s outs (o ∷ rest) old → StepsTo Adds base txn o old new
      → RunsOn Adds base txn os s outs rest new
  goes_on os s outs o rest old new on step = record {
    state = ap (after_ops rest) step.state ∙ on.state;
    note = ap₂ (λ n t. least n (first_note (notes_after txn rest t))) step.note step.state
        ∙ sym (least-assoc old.note (first_note (note_at txn o.0 (flat_reason o.1 (state_seen base old)))) (first_note (notes_after txn rest (after_op o.1 (state_seen base old)))))
        ∙ ap (least old.note) (sym (first-append (note_at txn o.0 (flat_reason o.1 (state_seen base old))) (notes_after txn rest (after_op o.1 (state_seen base old)))))
        ∙ on.note;
    changed = λ a. ap₂ (λ b t. b || change_row rest t a) (step.changed a) step.state
        ∙ or-shift (is_cell a (cell_changed o.1 (state_seen base old))) (is_written old.writes.items a) (change_row rest (after_op o.1 (state_seen base old)) a) ∙ on.changed a;
    kept = λ last all. on.kept last (
      new.outs,
      subst (λ (e : Values). Keeps Adds (var_given o.1 (state_seen base old)) e old.outs new.outs) (ap (λ (t : State). t.env) step.state) step.kept,
      subst (λ (t : State). KeepsAll Adds rest t new.outs last) step.state all,
    );
    once = step.once;
  }

  -- all were
  pub ends : (os : List NumberedOp) (s : State) (outs : K) (frame : Frame K) → RunsOn Adds base txn os s outs [] frame → RunsTo Adds base txn os s outs frame
  ends os s outs frame on = record {
    state = on.state;
    note = sym (least_none frame.note) ∙ on.note;
    changed = λ a. sym (or-none (is_written frame.writes.items a)) ∙ on.changed a;
    kept = on.kept frame.outs refl;
    once = on.once;
  }

-- ---- records

key_again : (key : Key) → as_key (key_value key) ≡ key
key_again (IntKey n) = refl
key_again (TextKey t) = refl

literals : (row : RowValues) (env : Values) → values (map Lit row) env ≡ Ok row
literals [] env = refl
literals (v ∷ row) env = ap₂ (λ (a : Result Value Trap) (b : Result RowValues Trap). a >>= λ v. b >>= λ vs. Ok (v ∷ vs)) (fold-Lit (Result Value Trap) (value_step env) v) (literals row env)

record_touched : (change : Change) (env : Values) → touched (record_op change).kind env ≡ Ok (Some (record_cell change))
record_touched (PutRow table key row) env = ap (λ (r : Result Value Trap). r >>= λ v. Ok (Some (table, as_key v))) (fold-Lit (Result Value Trap) (value_step env) (key_value key)) ∙ ap (λ k. Ok (Some (table, k))) (key_again key)
record_touched (DeleteRow table key) env = ap (λ (r : Result Value Trap). r >>= λ v. Ok (Some (table, as_key v))) (fold-Lit (Result Value Trap) (value_step env) (key_value key)) ∙ ap (λ k. Ok (Some (table, k))) (key_again key)

record_effect : (change : Change) (env : Values) (row : Option RowValues) → effect (record_op change).kind env row ≡ Ok (Leaves (record_row change))
record_effect (PutRow table key row) env old = ap (λ (r : Result RowValues Trap). or_abort r >>= λ vs. Ok (Leaves (Some vs))) (literals row env)
record_effect (DeleteRow table key) env old = refl

-- a record as an operation makes its change
pub record_done : (change : Change) (s : State) → done (record_op change).kind s ≡ Ok (record { env = s.env; tables = with_change s.tables change })
record_done (PutRow table key row) s =
    ap (λ r. or_abort r >>= λ cell. effect (record_op (PutRow table key row)).kind s.env (row_at s.tables cell) >>= λ e. Ok (with_effect cell e s)) (record_touched (PutRow table key row) s.env)
    ∙ ap (λ r. r >>= λ e. Ok (with_effect (Some (table, key)) e s)) (record_effect (PutRow table key row) s.env (row_at s.tables (Some (table, key))))
record_done (DeleteRow table key) s =
    ap (λ r. or_abort r >>= λ cell. effect (record_op (DeleteRow table key)).kind s.env (row_at s.tables cell) >>= λ e. Ok (with_effect cell e s)) (record_touched (DeleteRow table key) s.env)

pub record_after : (change : Change) (s : State) → after_op (record_op change) s ≡ record { env = s.env; tables = with_change s.tables change }
record_after (PutRow table key row) s = ap (done_or_defaulted (record_op (PutRow table key row)).kind s) (record_done (PutRow table key row) s)
record_after (DeleteRow table key) s = ap (done_or_defaulted (record_op (DeleteRow table key)).kind s) (record_done (DeleteRow table key) s)

pub record_silent : (change : Change) (s : State) → flat_reason (record_op change) s ≡ None
record_silent (PutRow table key row) s = ap reason_in (record_done (PutRow table key row) s)
record_silent (DeleteRow table key) s = ap reason_in (record_done (DeleteRow table key) s)

pub record_steps : {K : Type 0} (Adds : K → ℕ → Value → K → Type 0) (base : Tables) (txn n : ℕ) (change : Change) (old new : Frame K) → ChangesOne Adds change old new
    → StepsTo Adds base txn (n, record_op change) old new
record_steps Adds base txn n (PutRow table key row) old new h = stepped Adds base txn (n, record_op (PutRow table key row)) old new (Some (table, key)) (Leaves (Some row)) refl
    (record_touched (PutRow table key row) old.env) (record_effect (PutRow table key row) old.env (row_at (state_seen base old).tables (Some (table, key)))) h
record_steps Adds base txn n (DeleteRow table key) old new h = stepped Adds base txn (n, record_op (DeleteRow table key)) old new (Some (table, key)) (Leaves None) refl
    (record_touched (DeleteRow table key) old.env) (record_effect (DeleteRow table key) old.env (row_at (state_seen base old).tables (Some (table, key)))) h

-- ---- from the frame with which code begins

pub outcome_of : {K : Type 0} (Adds : K → ℕ → Value → K → Type 0) (txn : ℕ) (code : Code) (env : Values) (base : Tables) (outs : K) (os : List NumberedOp) (ws : List Write) (new : Frame K) → ws ≡ [] → os ≡ code_ops code
    → RunsTo Adds base txn os (record { env = env; tables = written base ws }) outs new → IsOutcomeOver Adds txn code env base outs new
outcome_of Adds txn code env base outs os ws new none same_code runs =
    subst (λ (xs : List NumberedOp). RunsTo Adds base txn xs (state_over env base) outs new) same_code
    (subst (λ (s : State). RunsTo Adds base txn os s outs new) (λ i. record { env = env; tables = written base (none i) }) runs)
