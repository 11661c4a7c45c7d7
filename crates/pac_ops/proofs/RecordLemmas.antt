-- Numbered operations of a whole program, and records as operations.
use Rattle.std.proofs.Common.{◌≡◌, ℕ, suc, ◌+◌, List, [], ◌∷◌, ◌++◌, map, refl, sym, ap, ap₂, ◌∙◌, Some, None, Result, Ok, inl, inr, arith}
use Rattle.std.specs.Prelude.{slice_get}
use Rattle.pac_value.specs.declared.values.Ty.{Ty}
use Rattle.pac_value.specs.declared.values.Key.{Key}
use Rattle.pac_value.specs.declared.values.Key.TheVariants.{Int as IntKey, Text as TextKey}
use Rattle.pac_value.specs.declared.values.Value.{Value}
use Rattle.pac_value.specs.declared.expr.Expr.{Lit}
use Rattle.pac_value.specs.declared.expr.Trap.{Trap}
use Rattle.pac_value.specs.Values.{key_value, as_key}
use Rattle.pac_value.specs.Expressions.{Values, value, value_step, ◌>>=◌}
use Rattle.pac_value.specs.State.{RowValues, with_row}
use Rattle.pac_value.proofs.ByForms.{fold-Lit}
use Rattle.pac_ops.specs.declared.program.FlatOp.{FlatOp}
use Rattle.pac_ops.specs.declared.transaction.Change.{Change}
use Rattle.pac_ops.specs.declared.transaction.Change.TheVariants.{Put as PutRow, Delete as DeleteRow}
use Rattle.pac_ops.specs.Reasons.{or_abort}
use Rattle.pac_ops.specs.Notes.{note_at}
use Rattle.pac_ops.specs.Operations.{State, Leaves, values, with_effect, done}
use Rattle.pac_ops.specs.Flat.{done_or_default, reason_in, flat_done, flat_reason, flat_meaning, notes_of}
use Rattle.pac_ops.specs.Transactions.{with_change, with_changes}
use Rattle.pac_base.specs.Members.{Mem}
use Rattle.pac_ops.specs.Effects.{NumberedOp, numbered_meaning, numbered_notes, numbered_from, record_op}

-- a whole program, numbered, means what it means flat
pub whole_meaning : (vars : List Ty) (n : ℕ) (ops : List FlatOp) (s : State) → numbered_meaning vars (numbered_from n ops) s ≡ flat_meaning vars ops s
unfolding numbered_meaning numbered_from
whole_meaning vars n [] s = refl
whole_meaning vars n (op ∷ ops) s = whole_meaning vars (n + 1) ops (flat_done vars op s)

pub whole_notes : (vars : List Ty) (txn n : ℕ) (ops : List FlatOp) (s : State) → numbered_notes vars txn (numbered_from n ops) s ≡ notes_of vars txn n ops s
unfolding numbered_notes numbered_from
whole_notes vars txn n [] s = refl
whole_notes vars txn n (op ∷ ops) s = ap (λ notes. note_at txn n (flat_reason op s) ++ notes) (whole_notes vars txn (n + 1) ops (flat_done vars op s))

-- a numbered operation stands in the list at its number
pub number_at : (n : ℕ) (ops : List FlatOp) (o : NumberedOp) → Mem o (numbered_from n ops) → (k : ℕ) × (o.0 ≡ n + k) × (slice_get ops k ≡ Some o.1)
unfolding numbered_from
number_at n [] o m = absurd m
number_at n (op ∷ ops) o (inl e) = (0, (let same : o.0 ≡ n = ap (λ (x : NumberedOp). x.0) e in omega (arith, same)), ap (λ (x : NumberedOp). Some x.1) (sym e))
number_at n (op ∷ ops) o (inr m) = let r = number_at (n + 1) ops o m in (suc r.0, (let same : o.0 ≡ n + 1 + r.0 = r.1 in omega (arith, same)), r.2)

-- ---- records

literal : (v : Value) (env : Values) → value (Lit v) env ≡ Ok v
literal v env = fold-Lit (Result Value Trap) (value_step env) v

literals : (row : RowValues) (env : Values) → values (map Lit row) env ≡ Ok row
literals [] env = refl
literals (v ∷ row) env = ap₂ (λ (a : Result Value Trap) (b : Result RowValues Trap). a >>= λ v. b >>= λ vs. Ok (v ∷ vs)) (literal v env) (literals row env)

key_again : (key : Key) → as_key (key_value key) ≡ key
key_again (IntKey n) = refl
key_again (TextKey t) = refl

-- a record as an operation makes its change
record_done : (change : Change) (s : State) → done (record_op change).kind s ≡ Ok (record { env = s.env; tables = with_change s.tables change })
record_done (PutRow table key row) s =
    (λ i. or_abort (literal (key_value key) s.env i >>= λ v. Ok (Some (table, as_key v))) >>= λ cell. (or_abort (literals row s.env i) >>= λ vs. Ok (Leaves (Some vs))) >>= λ e. Ok (with_effect cell e s))
    ∙ ap (λ k. Ok (record { env = s.env; tables = with_row s.tables (table, k) (Some row) })) (key_again key)
record_done (DeleteRow table key) s =
    (λ i. or_abort (literal (key_value key) s.env i >>= λ v. Ok (Some (table, as_key v))) >>= λ cell. Ok (with_effect cell (Leaves None) s))
    ∙ ap (λ k. Ok (record { env = s.env; tables = with_row s.tables (table, k) None })) (key_again key)

pub record_flat : (vars : List Ty) (change : Change) (s : State) → flat_done vars (record_op change) s ≡ record { env = s.env; tables = with_change s.tables change }
record_flat vars (PutRow table key row) s = ap (done_or_default vars (record_op (PutRow table key row)).kind s) (record_done (PutRow table key row) s)
record_flat vars (DeleteRow table key) s = ap (done_or_default vars (record_op (DeleteRow table key)).kind s) (record_done (DeleteRow table key) s)

record_reason : (change : Change) (s : State) → flat_reason (record_op change) s ≡ None
record_reason (PutRow table key row) s = ap reason_in (record_done (PutRow table key row) s)
record_reason (DeleteRow table key) s = ap reason_in (record_done (DeleteRow table key) s)

pub records_meaning : (vars : List Ty) (n : ℕ) (records : List Change) (s : State) → numbered_meaning vars (numbered_from n (map record_op records)) s ≡ record { env = s.env; tables = with_changes s.tables records }
unfolding numbered_meaning numbered_from
records_meaning vars n [] s = refl
records_meaning vars n (change ∷ records) s =
    ap (λ z. numbered_meaning vars (numbered_from (n + 1) (map record_op records)) z) (record_flat vars change s)
    ∙ records_meaning vars (n + 1) records (record { env = s.env; tables = with_change s.tables change })

pub records_notes : (vars : List Ty) (txn n : ℕ) (records : List Change) (s : State) → numbered_notes vars txn (numbered_from n (map record_op records)) s ≡ []
unfolding numbered_notes numbered_from
records_notes vars txn n [] s = refl
records_notes vars txn n (change ∷ records) s =
    ap (λ r. note_at txn n r ++ numbered_notes vars txn (numbered_from (n + 1) (map record_op records)) (flat_done vars (record_op change) s)) (record_reason change s)
    ∙ records_notes vars txn (n + 1) records (flat_done vars (record_op change) s)
