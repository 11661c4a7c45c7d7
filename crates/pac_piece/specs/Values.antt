-- The value of a piece: what its code leaves of the values and the rows that it begins with.
use Rattle.std.specs.Prelude.{◌≡◌, ℕ, List, Option, is_some}
use Rattle.std.specs.FinMap.{get, empty}
use Rattle.pac_value.specs.declared.values.Value.{Value}
use Rattle.pac_value.specs.Expressions.{Values}
use Rattle.pac_value.specs.State.{Cell, Tables}
use Rattle.pac_ops.specs.declared.note.Note.{Note}
use Rattle.pac_ops.specs.Notes.{first_note}
use Rattle.pac_ops.specs.Operations.{State}
use Rattle.pac_plan.specs.declared.code.Code.{Code}
use Rattle.pac_plan.specs.declared.code.Code.TheVariants.{Ops, Records}
use Rattle.pac_plan.specs.Codes.{code_ops}
use Rattle.pac_tables.specs.declared.writes.Write.{Write}
use Rattle.pac_tables.specs.Written.{is_written, written}
use Rattle.pac_piece.specs.declared.work.Work.{Work}
use Rattle.pac_piece.specs.Frames.{after_ops, notes_after, change_row, give_value, AreAmong, CanRun, RunsTo}
use Rattle.pac_piece.specs.declared.frame.Frame.{Frame}

-- the state of these values and rows
abbrev pub state_over : Values → Tables → State
state_over env base = record { env = env; tables = base }

-- the state that code leaves of them
abbrev pub code_end : Code → Values → Tables → State
code_end code env base = after_ops (code_ops code) (state_over env base)

-- these writes, values and note are what code leaves that begins with these values and rows, in the transaction of this number
pub record IsValueOver (txn : ℕ) (code : Code) (env : Values) (base : Tables) (writes : List Write) (outs : Values) (note : Option Note) : Type 0 where
  -- the writes lead from the rows before to those after, and are at the cells of records and of operations that modify, were
  -- executed and left no note
  pub rows : written base writes ≡ (code_end code env base).tables
  pub cells : (a : Cell) → is_written writes a ≡ change_row (code_ops code) (state_over env base) a
  -- the variables that have values are those of operations whose conditions held, and the values those at the end
  pub vars : (x : ℕ) → is_some (get outs x) ≡ give_value (code_ops code) (state_over env base) x
  pub values : AreAmong outs (code_end code env base).env
  pub note_is : note ≡ first_note (notes_after txn (code_ops code) (state_over env base))

-- these writes and note are what code leaves, and these are all values at its end, those that it began with and those that it gave
pub record IsEndOver (txn : ℕ) (code : Code) (env : Values) (base : Tables) (writes : List Write) (all : Values) (note : Option Note) : Type 0 where
  pub outs : Values
  pub value : IsValueOver txn code env base writes outs note
  pub all_are : all ≡ (code_end code env base).env

-- ---- work

-- the rows that work has copies of
abbrev pub copied : Work → Tables
copied work = written empty work.rows

-- the state that work begins with: its inputs, and the rows that it has copies of
abbrev pub begun : Work → State
begun work = state_over work.env (copied work)

-- the state that its operations leave
abbrev pub work_end : Work → State
work_end work = after_ops (code_ops work.code) (begun work)

-- these writes, values and note are the value of the work
abbrev pub IsValueOf : Work → List Write → Values → Option Note → Type 0
IsValueOf work writes outs note = IsValueOver work.piece.txn work.code work.env (copied work) writes outs note

-- ---- while it runs

-- the operations can be executed; records always can
abbrev pub CanRunCode : Code → State → Type 0
CanRunCode (Ops os) s = CanRun os s
CanRunCode (Records changes) s = Unit {0}

-- the frame is what the code leaves
abbrev pub IsOutcomeOver : {K : Type 0} → (K → ℕ → Value → K → Type 0) → ℕ → Code → Values → Tables → K → Frame K → Type 0
IsOutcomeOver Adds txn code env base outs frame = RunsTo Adds base txn (code_ops code) (state_over env base) outs frame
