-- The bytes of a checkpoint, as they stand after the open gate of a slot.
use Rattle.std.specs.Prelude.{◌≡◌, ◌<◌, ◌^◌, ℕ, Bool, true, false, IsTrue, List, [], ◌∷◌, ◌++◌, length, codes, Option, Some, None}
use Rattle.std.specs.Int.{w16, w64, to_le_bytes}
use Rattle.std.specs.List.{flat_map, All, AllByRecursion, AllZip}
use Rattle.std.specs.Ordering.{is_lt}
use Rattle.pac_value.specs.declared.values.Key.{Key}
use Rattle.pac_value.specs.Keys.{key_cmp}
use Rattle.pac_value.specs.Values.{key_value}
use Rattle.pac_bytes.specs.Values.{HasBytes}
use Rattle.pac_value.specs.State.{RowValues}
use Rattle.pac_bytes.specs.Typed.{key_bytes, values_bytes, KeyHasType, HaveTypes}
use Rattle.pac_types.specs.declared.table.Table.{Table}
use Rattle.pac_types.specs.WellFormed.{types}
use Rattle.pac_outside.specs.declared.devices.LogName.{LogName}
use Rattle.pac_outside.specs.declared.devices.LogName.TheVariants.{Log, LogB}
use Rattle.pac_check.specs.declared.head.Head.{Head}
use Rattle.pac_check.specs.declared.head.SlotForm.{SlotForm}
use Rattle.pac_check.specs.declared.head.SlotForm.TheVariants.{First, Later}

-- a row with its key
abbrev pub KeyedRow : Type 0
KeyedRow = Key × RowValues

-- how many transactions are in it, at which offset of which segment the gate stands after these, and the rows of each table in
-- the order of their keys
pub record Checkpoint : Type 0 where
  pub head : Head
  pub tables : List (List KeyedRow)

-- the head with these numbers, of a checkpoint that names this segment
abbrev pub head_with : ℕ → ℕ → LogName → Head
head_with txns place segment = record { txns = txns; place = place; form = Later segment }

-- the segment that a checkpoint names: one of the first form names the log
abbrev pub segment_in : SlotForm → LogName
segment_in First = Log
segment_in (Later segment) = segment

-- whether a checkpoint of this form has a byte that names a segment
abbrev pub is_later : SlotForm → Bool
is_later First = false
is_later (Later segment) = true

-- the name that a checkpoint begins with
abbrev pub checkpoint_name : Bool → List ℕ
checkpoint_name false = codes "PACMSLT1"
checkpoint_name true = codes "PACMSLT2"

-- the byte of a segment
abbrev pub segment_byte : LogName → ℕ
segment_byte Log = 0
segment_byte LogB = 1

abbrev pub segment_bytes : SlotForm → List ℕ
segment_bytes First = []
segment_bytes (Later segment) = segment_byte segment ∷ []

-- how many bytes a head of this form has
abbrev pub head_length : SlotForm → ℕ
head_length First = 26
head_length (Later segment) = 27

-- the name, the number of transactions, the offset, and the segment where the form names one
abbrev pub front_bytes : Head → List ℕ
front_bytes head = checkpoint_name (is_later head.form) ++ (to_le_bytes w64 head.txns ++ (to_le_bytes w64 head.place ++ segment_bytes head.form))

-- and the number of tables
abbrev pub head_bytes : ℕ → Head → List ℕ
head_bytes tables head = front_bytes head ++ to_le_bytes w16 tables

-- a key, and then the values of the columns
abbrev pub keyed_bytes : KeyedRow → List ℕ
keyed_bytes row = key_bytes row.0 ++ values_bytes row.1

-- how many rows a table has, and the rows
abbrev pub rows_bytes : List KeyedRow → List ℕ
rows_bytes rows = to_le_bytes w64 (length rows) ++ flat_map keyed_bytes rows

-- the head, and each table
abbrev pub checkpoint_bytes : Checkpoint → List ℕ
checkpoint_bytes checkpoint = head_bytes (length checkpoint.tables) checkpoint.head ++ flat_map rows_bytes checkpoint.tables

-- the key is above the one before, where there is one
abbrev pub is_above : Option Key → Key → Bool
is_above None key = true
is_above (Some before) key = is_lt (key_cmp before key)

-- each key is above the one before
abbrev pub AreAscending : Option Key → List KeyedRow → Type 0
AreAscending before [] = Unit {0}
AreAscending before (row ∷ rows) = IsTrue (is_above before row.0) × AreAscending (Some row.0) rows

-- the key and each value have bytes
abbrev pub RowHasBytes : KeyedRow → Type 0
RowHasBytes row = HasBytes (key_value row.0) × All HasBytes row.1

-- the key and the values have the types of the table, and bytes
abbrev pub IsKeyedRow : Table → KeyedRow → Type 0
IsKeyedRow table row = KeyHasType table.key row.0 × HaveTypes (types table.columns) row.1

-- the same, with a key that is above the one before
abbrev pub IsRowAfter : Table → Option Key → KeyedRow → Type 0
IsRowAfter table before row = IsKeyedRow table row × (is_above before row.0 ≡ true)

-- rows of the table, by ascending keys, whose number has 64 bits
pub record AreRowsOf (table : Table) (rows : List KeyedRow) : Type 0 where
  pub each : AllByRecursion (IsKeyedRow table) rows
  pub ascending : AreAscending None rows
  pub few : length rows < 2 ^ 64

-- numbers of 64 bits
pub record IsHead (head : Head) : Type 0 where
  pub txns : head.txns < 2 ^ 64
  pub place : head.place < 2 ^ 64

-- a checkpoint of these tables
pub record IsCheckpoint (tables : List Table) (checkpoint : Checkpoint) : Type 0 where
  pub head : IsHead checkpoint.head
  pub rows : AllZip AreRowsOf tables checkpoint.tables
