-- The cells that a transaction writes, by its executed operations, and what stands there once it has ended.
use Rattle.std.specs.Prelude.{◌+◌, ℕ, Bool, List, [], ◌∷◌, ◌++◌, map, slice_get, Option, Some, None, Result, Ok, Err, if◌then◌else◌}
use Rattle.std.specs.List.{list_any}
use Rattle.std.specs.Ordering.{eq_by_cmp}
use Rattle.std.specs.FinMap.{FinMap, get, keys, insert, empty}
use Rattle.pac_value.specs.declared.values.Value.{Value}
use Rattle.pac_value.specs.Expressions.{value}
use Rattle.pac_value.specs.State.{Cell, cell_cmp, RowValues, Tables}
use Rattle.pac_ops.specs.declared.program.OpKind.{OpKind}
use Rattle.pac_ops.specs.declared.transaction.Change.{Change}
use Rattle.pac_ops.specs.declared.transaction.Change.TheVariants.{Put, Delete}
use Rattle.pac_ops.specs.declared.transaction.Txn.{Txn}
use Rattle.pac_ops.specs.declared.transaction.Txn.TheVariants.{Call as ACall, AdHoc}
use Rattle.pac_ops.specs.Uses.{modifies}
use Rattle.pac_ops.specs.Operations.{State, define, done, opening, touched}
use Rattle.pac_types.specs.declared.procedure.Proc.{Proc}
use Rattle.pac_types.specs.Meaning.{branch, runs, step_count}
use Rattle.pac_types.specs.Unrolled.{UnrolledSteps, End, Op, Branch, unrolled}

-- the cell is one of these
abbrev pub is_among : Cell → List Cell → Bool
is_among cell cells = list_any (eq_by_cmp cell_cmp cell) cells

-- what follows from what went well; nothing from what did not
abbrev pub if_well : {A B E : Type 0} → (A → List B) → Result A E → List B
if_well follows (Ok x) = follows x
if_well follows (Err error) = []

-- the cell, where there is one
abbrev pub cells_in : Option Cell → List Cell
cells_in None = []
cells_in (Some cell) = cell ∷ []

-- the cell that an operation writes: that of a put, of a set or of a delete, whether a row stands there or not
abbrev pub cells_put : OpKind → State → List Cell
cells_put kind s = if modifies kind then if_well cells_in (touched kind s.env) else []

-- the cells that steps write, where the first operation has the number n, up to an abort
abbrev pub cells_run : UnrolledSteps → ℕ → State → List Cell
cells_run End n s = []
cells_run (Op kind rest) n s = if_well (λ t. cells_put kind s ++ cells_run rest (n + 1) t) (done kind s)
cells_run (Branch x e first second rest) n s = if_well
    (λ v. if_well
    (λ t. branch v (cells_run first (n + 1) (define x v s)) (cells_run second (n + 1 + step_count first) (define x v s)) ++ cells_run rest (n + 1 + step_count first + step_count second) t)
    (branch v (runs first (n + 1)) (runs second (n + 1 + step_count first)) (define x v s)))
    (value e s.env)

-- the cells that a call of a procedure writes
abbrev pub cells_called : Option Proc → List Value → Tables → List Cell
cells_called None args tables = []
cells_called (Some proc) args tables = cells_run (unrolled proc) 0 (opening args tables)

-- where a change or an after-image stands
abbrev pub image_cell : Change → Cell
image_cell (Put table key row) = (table, key)
image_cell (Delete table key) = (table, key)

-- the cells that a transaction writes: those of its executed operations, or of its records
abbrev pub cells_written : List Proc → Txn → Tables → List Cell
cells_written procs (ACall call) tables = cells_called (slice_get procs call.proc) call.args tables
cells_written procs (AdHoc records) tables = map image_cell records

-- each cell once
abbrev pub cell_set : List Cell → FinMap cell_cmp (Unit {0})
cell_set [] = empty
cell_set (cell ∷ cells) = insert (cell_set cells) cell tt

-- the image of a cell where this row stands, or none
abbrev pub shown : Cell → Option RowValues → Change
shown cell None = Delete cell.0 cell.1
shown cell (Some row) = Put cell.0 cell.1 row

-- what stands at a cell, as an image
abbrev pub image_in : Tables → Cell → Change
image_in tables cell = shown cell (get tables cell)

-- the after-images of a transaction that ends with these tables: the cells that it writes, each once, ascending, each with
-- the row that stands there then, or with none
abbrev pub after_images : List Proc → Txn → Tables → Tables → List Change
after_images procs txn before after = map (image_in after) (keys (cell_set (cells_written procs txn before)))
