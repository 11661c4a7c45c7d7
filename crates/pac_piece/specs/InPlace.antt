-- What a piece does over the tables themselves, and what puts back what it did.
use Rattle.std.specs.Prelude.{◌≡◌, ℕ, ◌<◌, true, List, [], ◌∷◌, take, Option, Some, IsSome, Result, Ok, Err, refl}
use Rattle.std.specs.Coded.{Coded, code_by, coded×, coded_ℕ, coded_option}
use Rattle.std.specs.FinMap.{get, code}
use Rattle.pac_value.specs.contracts.values.Value as value_type
use Rattle.pac_ops.specs.contracts.note.Note as note_type
use Rattle.pac_value.specs.Expressions.{Values}
use Rattle.pac_value.specs.State.{Cell, Tables, tables_code, with_row, RowValues}
use Rattle.pac_ops.specs.declared.note.Note.{Note}
use Rattle.pac_ops.specs.declared.transaction.Txn.{Txn}
use Rattle.pac_ops.specs.Notes.{note_at, first_note, least}
use Rattle.pac_plan.specs.declared.code.Code.{Code}
use Rattle.pac_plan.specs.declared.parts.PlanParts.{PlanParts}
use Rattle.pac_plan.specs.Analysis.{IsPlan}
use Rattle.pac_plan.specs.Pieces.{Present, run_ops, with_env}
use Rattle.pac_plan.specs.Worlds.{txn_vars}
use Rattle.pac_plan.specs.Codes.{TxnFitsPlan, code_in, code_ops, piece_ops}
use Rattle.pac_ops.specs.declared.program.OpKind.{OpKind}
use Rattle.pac_ops.specs.Operations.{State, done}
use Rattle.pac_ops.specs.Flat.{flat_reason}
use Rattle.pac_ops.specs.Effects.{NumberedOp}
use Rattle.pac_tables.specs.declared.writes.Write.{Write}
use Rattle.pac_tables.specs.Written.{IsOnce, is_written, written}
use Rattle.pac_tables.specs.Room.{IsReady}
use Rattle.pac_piece.specs.Frames.{after_op, after_ops, notes_after, state_seen}
use Rattle.pac_piece.specs.Values.{code_end, state_over}
use Rattle.pac_piece.specs.declared.failed.OpFailed.{OpFailed}
use Rattle.pac_piece.specs.declared.failed.OpFailed.TheVariants.{Abort, NoMemory}
use Rattle.pac_piece.specs.declared.ground.Ground.{Ground}

-- writes that are made from the last to the first, and take no memory: each row that is put replaces one
abbrev pub HaveCellRoom : ℕ → Tables → List Write → Type 0
HaveCellRoom tables held [] = Unit {0}
HaveCellRoom tables held (w ∷ ws) = IsReady tables (written held ws) w × HaveCellRoom tables held ws

-- no piece is in course
pub record IsAtRest {R : Type 0} (ground : Ground R) : Type 0 where
  pub writes : ground.frame.writes.items ≡ []
  pub olds : ground.olds.items ≡ []

module _ {R : Type 0} (held : R → Tables) where
  -- the tables that a piece sees: the rows that it deleted don't stand in them any more
  abbrev pub tables_seen : Ground R → Tables
  tables_seen ground = written (held ground.rows) ground.frame.writes.items

  -- the state that it sees
  abbrev pub state_here : Ground R → State
  state_here ground = state_seen (held ground.rows) ground.frame

  -- the tables that stood before it
  abbrev pub tables_before : Ground R → Tables
  tables_before ground = written (held ground.rows) ground.olds.items

  -- a row stands at the cell, or none, and nothing else happened
  abbrev pub IsLeft : Cell → Option RowValues → Ground R → Ground R → Type 0
  IsLeft cell row old new = tables_seen new ≡ with_row (tables_seen old) cell row

  -- the operation did what it means; or it would abort, and nothing happened; or it found no memory
  abbrev pub DoesHere : {T : Type 0} → OpKind → Ground R → Ground R → Result T OpFailed → Type 0
  DoesHere kind old new (Ok x) = (done kind (state_here old) ≡ Ok (state_here new)) × (new.frame.note ≡ old.frame.note)
  DoesHere kind old new (Err (Abort reason)) = (done kind (state_here old) ≡ Err reason) × (new ≡ old)
  DoesHere kind old new (Err NoMemory) = new.frame.env ≡ old.frame.env

  -- one operation more was executed
  pub record StepsHere (txn : ℕ) (o : NumberedOp) (old new : Ground R) : Type 0 where
    pub state : state_here new ≡ after_op o.1 (state_here old)
    pub note : new.frame.note ≡ least old.frame.note (first_note (note_at txn o.0 (flat_reason o.1 (state_here old))))

  -- all of these were
  pub record RunsHere (txn : ℕ) (os : List NumberedOp) (old new : Ground R) : Type 0 where
    pub state : state_here new ≡ after_ops os (state_here old)
    pub note : new.frame.note ≡ least old.frame.note (first_note (notes_after txn os (state_here old)))

  -- the values are those after the first of them, however many
  pub record StopsHere (os : List NumberedOp) (old new : Ground R) : Type 0 where
    pub count : ℕ
    pub values : new.frame.env ≡ (after_ops (take count os) (state_here old)).env

  module _ (tables : R → ℕ) where
    -- what was kept can be put back, and what is to stand at the end can be made, with no memory
    pub record Stands (ground : Ground R) : Type 0 where
      pub room : HaveCellRoom (tables ground.rows) (held ground.rows) ground.olds.items
      pub once : IsOnce ground.frame.writes.items
      pub there : (a : Cell) → is_written ground.frame.writes.items a ≡ true → a.0 < tables ground.rows
      pub placed : (a : Cell) → is_written ground.frame.writes.items a ≡ true → IsSome (get (held ground.rows) a)

    -- this stays so, and what is put back leads to the same tables
    pub record KeepsGround (old new : Ground R) : Type 0 where
      pub count : tables new.rows ≡ tables old.rows
      pub before : tables_before new ≡ tables_before old
      pub stands : Stands new

-- ---- as contracts see it

-- where pieces run in place: so many tables and their rows, the values of the transaction that runs, and the least note so far
pub record Place : Type 0 where
  pub count : ℕ
  pub tables : Tables
  pub values : Values
  pub note : Option Note

-- how such places are told apart
abbrev pub place_code : Coded Place
place_code = code_by (ℕ × (Tables × (Values × Option Note))) (coded× coded_ℕ (coded× tables_code (coded× (code coded_ℕ value_type.the_row.coded) (coded_option note_type.the_row.coded))))
    (λ p. (p.count, (p.tables, (p.values, p.note)))) (λ q. record { count = q.0; tables = q.1.0; values = q.1.1.0; note = q.1.1.1 }) (λ p. refl)

-- the state that a piece finds there
abbrev pub state_found : Place → State
state_found place = state_over place.values place.tables

-- the place after code of the transaction with a number
abbrev pub after_code : ℕ → Code → Place → Place
after_code txn code place = record place {
  tables = (code_end code place.values place.tables).tables;
  values = (code_end code place.values place.tables).env;
  note = least place.note (first_note (notes_after txn (code_ops code) (state_found place)));
}

-- tables and note are as before, and the values those after the first operations, however many: they are all values that the code gives
pub record IsUndone (code : Code) (old new : Place) : Type 0 where
  pub tables : new.tables ≡ old.tables
  pub note : new.note ≡ old.note
  pub size : new.count ≡ old.count
  pub done : ℕ
  pub values : new.values ≡ (after_ops (take done (code_ops code)) (state_found old)).env

-- ---- in the words of the laws of pieces

-- what a transaction finds of the state of a replay
abbrev pub place_in : ℕ → ℕ → Present → Place
place_in count txn s = record { count = count; tables = s.tables; values = s.envs txn; note = s.note }

-- the state of the replay where this stands there
abbrev pub with_place : ℕ → Place → Present → Present
with_place txn place s = record { tables = place.tables; envs = with_env txn place.values s.envs; note = place.note }

-- where the code is that of a transaction in a block of a plan, the place after it is the piece applied
abbrev pub InPlaceIsApply : Type 0
InPlaceIsApply = (parts : PlanParts) → IsPlan parts → (txn : Txn) → TxnFitsPlan parts txn → (count number block : ℕ) (s : Present)
    → with_place number (after_code number (code_in parts block txn) (place_in count number s)) s
    ≡ run_ops number (txn_vars parts (Some txn)) (piece_ops parts block txn) s
