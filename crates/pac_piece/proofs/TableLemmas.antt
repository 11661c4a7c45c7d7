-- The tables that the operations of a piece access are there, and those that it writes in are among them.
use Rattle.std.proofs.Common.{◌≡◌, ℕ, zero, suc, ◌+◌, ◌<◌, Bool, true, false, cond, List, [], ◌∷◌, map, length, filter, Option, Some, None, refl, sym, ◌∙◌, subst, ⊎_elim, get_or, arith}
use Rattle.std.specs.Prelude.{slice_get, IsSomeAnd}
use Rattle.std.specs.Option.{option_map}
use Rattle.std.specs.Ordering.{eq_by_cmp}
use Rattle.std.proofs.lemmas.Option.{slice_get-map, same_Some}
use Rattle.pac_base.specs.Members.{Each}
use Rattle.pac_base.proofs.TestLemmas.{or_cases, or_left, or_right}
use Rattle.pac_base.proofs.ItemLemmas.{inside}
use Rattle.pac_value.specs.declared.values.Ty.{Ty}
use Rattle.pac_value.specs.Values.{type_of}
use Rattle.pac_value.specs.Expressions.{Values}
use Rattle.pac_value.specs.State.{Cell, cell_cmp, Tables}
use Rattle.pac_value.proofs.CellLemmas.{same-cell}
use Rattle.pac_ops.specs.declared.shapes.TableTypes.{TableTypes}
use Rattle.pac_ops.specs.declared.program.Program.{Program}
use Rattle.pac_ops.specs.declared.transaction.Change.{Change}
use Rattle.pac_ops.specs.declared.transaction.Change.TheVariants.{Put as PutRow, Delete as DeleteRow}
use Rattle.pac_ops.specs.declared.transaction.Txn.{Txn}
use Rattle.pac_ops.specs.declared.transaction.Txn.TheVariants.{Call as ACall, AdHoc}
use Rattle.pac_ops.specs.Programs.{scope_in}
use Rattle.pac_ops.specs.Shapes.{ChangeFits, ColumnsFit, KeyFits, RecordsFit}
use Rattle.pac_ops.specs.Operations.{State}
use Rattle.pac_ops.specs.Effects.{NumberedOp, numbered_from, record_op}
use Rattle.pac_ops.proofs.EffectLemmas.{cell-table}
use Rattle.pac_ops.proofs.StayLemmas.{Typable}
use Rattle.pac_plan.specs.declared.code.Code.{Code}
use Rattle.pac_plan.specs.declared.parts.PlanParts.{PlanParts}
use Rattle.pac_plan.specs.Nodes.{Operation}
use Rattle.pac_plan.specs.Analysis.{IsPlan, block_in}
use Rattle.pac_plan.specs.Pieces.{part}
use Rattle.pac_plan.specs.PieceFits.{records_in}
use Rattle.pac_plan.specs.Worlds.{ops_of}
use Rattle.pac_plan.specs.Codes.{TxnFitsPlan, code_in, code_ops}
use Rattle.pac_plan.proofs.OrderLemmas.{table_there}
use Rattle.pac_tables.specs.declared.writes.Write.{Write}
use Rattle.pac_tables.specs.Written.{AreWithin, cell_written, is_written}
use Rattle.pac_piece.specs.Sources.{HasTable, HaveTables}
use Rattle.pac_piece.specs.Runnable.{IsRunnableOn}
use Rattle.pac_piece.specs.Frames.{after_op, cell_changed, change_row, is_cell}
use Rattle.pac_piece.proofs.RunnableLemmas.{typable_ops}
use Rattle.pac_piece.proofs.WithinLemmas.{changed_at}

-- where any table is there, each is
pub all_there : (os : List NumberedOp) → HaveTables (λ t. Unit {0}) os
all_there [] = tt
all_there (o ∷ os) = ((λ t e. tt), all_there os)

-- where more tables are there
pub wider : (Few Many : ℕ → Type 0) (os : List NumberedOp) → ((t : ℕ) → Few t → Many t) → HaveTables Few os → HaveTables Many os
wider Few Many [] f h = tt
wider Few Many (o ∷ os) f h = ((λ t e. f t (h.0 t e)), wider Few Many os f h.1)

-- ---- of a plan

typed_there : (tables : List TableTypes) (vars : List Ty) (os : List NumberedOp) → Each (Typable tables vars) os → HaveTables (λ t. t < length tables) os
typed_there tables vars [] each = tt
typed_there tables vars (o ∷ os) each = ((λ t e. table_there tables (scope_in vars) o.1.kind t each.0.typed e), typed_there tables vars os each.1)

record_there : (tables : List TableTypes) (change : Change) → ChangeFits tables change → HasTable (λ t. t < length tables) (record_op change).kind
record_there tables (PutRow table key row) fits t e = subst (λ n. n < length tables) (same_Some table t e) (inside tables table (λ (types : TableTypes). KeyFits key types × ColumnsFit row types) fits)
record_there tables (DeleteRow table key) fits t e = subst (λ n. n < length tables) (same_Some table t e) (inside tables table (KeyFits key) fits)

records_there : (tables : List TableTypes) (n : ℕ) (changes : List Change) → RecordsFit tables changes → HaveTables (λ t. t < length tables) (numbered_from n (map record_op changes))
unfolding numbered_from
records_there tables n [] fits = tt
records_there tables n (c ∷ cs) fits = (record_there tables c fits.0, records_there tables (n + 1) cs fits.1)

filtered : (tables : List TableTypes) (test : Change → Bool) (changes : List Change) → RecordsFit tables changes → RecordsFit tables (filter test changes)
filtered tables test [] fits = tt
filtered tables test (c ∷ cs) fits = go (test c) (filtered tables test cs fits.1)
  where
    go : (b : Bool) → RecordsFit tables (filter test cs) → RecordsFit tables (cond b (c ∷ filter test cs) (filter test cs))
    go true rest = (fits.0, rest)
    go false rest = rest

pub plan_tables : (parts : PlanParts) → IsPlan parts → (txn : Txn) → TxnFitsPlan parts txn → (block : ℕ) → HaveTables (λ t. t < length parts.tables) (code_ops (code_in parts block txn))
plan_tables parts is (AdHoc records) fits block = records_there parts.tables 0 (records_in parts block records) (filtered parts.tables _ records fits)
plan_tables parts is (ACall call) fits block = go (slice_get parts.programs call.proc) refl
    (subst (λ o. IsSomeAnd o (λ types. map type_of call.args ≡ types)) (slice_get-map (λ (program : Program). program.params) parts.programs call.proc) fits)
  where
    go : (o : Option Program) → slice_get parts.programs call.proc ≡ o → IsSomeAnd (option_map (λ (program : Program). program.params) o) (λ types. map type_of call.args ≡ types)
        → HaveTables (λ t. t < length parts.tables) (part (λ o. block_in parts (Operation call.proc o.0)) block (numbered_from 0 (ops_of o)))
    go None at f = absurd f
    go (Some program) at f = typed_there parts.tables program.vars _ (typable_ops parts is call.proc program at block)

pub runnable_tables : (block : ℕ) (code : Code) (env : Values) (tables : ℕ) (held : Tables) → IsRunnableOn block code env tables held → HaveTables (λ t. t < tables) (code_ops code)
runnable_tables block code env tables held r =
    let among = r.among in
    wider (λ t. t < length r.runnable.parts.tables) (λ t. t < tables) (code_ops code) (λ t lt. omega (arith, lt, among))
    (subst (λ (c : Code). HaveTables (λ t. t < length r.runnable.parts.tables) (code_ops c)) (sym r.runnable.code) (plan_tables r.runnable.parts r.runnable.is_plan r.runnable.txn r.runnable.fits block))

-- ---- of writes

-- a row that operations change is in a table that they access
pub changed_there : (There : ℕ → Type 0) (os : List NumberedOp) (s : State) (a : Cell) → HaveTables There os → change_row os s a ≡ true → There a.0
changed_there There [] s a h e = cc
changed_there There (o ∷ os) s a h e = ⊎_elim
    (λ here. h.0 a.0 (cell-table o.1 s.env a (changed_at o.1 s a here).1))
    (λ later. changed_there There os (after_op o.1 s) a h.1 later)
    (or_cases (is_cell a (cell_changed o.1 s)) (change_row os (after_op o.1 s) a) e)

pub written_here : (writes : List Write) (k : ℕ) (d : Write) → k < length writes → is_written writes (cell_written (get_or writes k d)) ≡ true
written_here [] k d lt = absurd (let l : k < 0 = lt in omega (arith, l))
written_here (w ∷ ws) zero d lt = or_left _ (is_written ws (cell_written w)) (same-cell (cell_written w))
written_here (w ∷ ws) (suc k) d lt = or_right (eq_by_cmp cell_cmp (cell_written (get_or ws k d)) (cell_written w)) _ (written_here ws k d (let l : suc k < suc (length ws) = lt in omega (arith, l)))

pub writes_there : (tables : ℕ) (os : List NumberedOp) (s : State) (writes : List Write) → HaveTables (λ t. t < tables) os → ((a : Cell) → is_written writes a ≡ change_row os s a) → AreWithin tables writes
writes_there tables os s writes h cells = λ k d lt. changed_there (λ t. t < tables) os s (cell_written (get_or writes k d)) h (sym (cells (cell_written (get_or writes k d))) ∙ written_here writes k d lt)
