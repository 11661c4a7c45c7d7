-- How a checkpoint is read, up to the first fault.
use Rattle.std.specs.Prelude.{ℕ, zero, suc, Bool, true, false, List, [], ◌∷◌, length, take, Option, Some, None, Result, Ok, Err, nat_eq, if◌then◌else◌}
use Rattle.std.specs.Int.{Width, w16, w64}
use Rattle.std.specs.Cmp.Lexicographic.{pointwise}
use Rattle.pac_value.specs.declared.values.Key.{Key}
use Rattle.pac_value.specs.Expressions.{◌>>=◌}
use Rattle.pac_types.specs.declared.table.Table.{Table}
use Rattle.pac_types.specs.WellFormed.{types}
use Rattle.pac_bytes.specs.Reading.{Rest, advanced, reported_as, next_byte, next_uint, along}
use Rattle.pac_bytes.specs.Typed.{next_key, next_values}
use Rattle.pac_check.specs.declared.damage.SlotDamageKind.TheVariants.{Magic, Range, Order}
use Rattle.pac_check.specs.declared.damage.SlotFault.{SlotFault}
use Rattle.pac_outside.specs.declared.devices.LogName.TheVariants.{Log, LogB}
use Rattle.pac_check.specs.declared.head.Head.{Head}
use Rattle.pac_check.specs.declared.head.SlotForm.{SlotForm}
use Rattle.pac_check.specs.declared.head.SlotForm.TheVariants.{First, Later}
use Rattle.pac_check.specs.Kinds.{slot_fault, as_slot_fault, of_typed}
use Rattle.pac_check.specs.Checkpoints.{Checkpoint, KeyedRow, checkpoint_name, is_above}

-- the next number of this width
abbrev pub slot_number : Width → Rest → Result (ℕ × Rest) SlotFault
slot_number w s = reported_as as_slot_fault (next_uint w s)

-- whether the name is that of the form which names a segment; a fault at its first byte where it is neither, or too few bytes are left
abbrev pub next_name : Rest → Result (Bool × Rest) SlotFault
next_name s = if pointwise nat_eq (take 8 s.bytes) (checkpoint_name false) then Ok (false, advanced 8 s)
    else (if pointwise nat_eq (take 8 s.bytes) (checkpoint_name true) then Ok (true, advanced 8 s) else Err (slot_fault Magic s.at))

-- the form with the segment of this byte, which stands at this offset
abbrev pub of_segment : ℕ → ℕ × Rest → Result (SlotForm × Rest) SlotFault
of_segment at byte = if nat_eq byte.0 0 then Ok (Later Log, byte.1) else (if nat_eq byte.0 1 then Ok (Later LogB, byte.1) else Err (slot_fault Range at))

-- the form: after the later name the segment comes, and after the first one nothing
abbrev pub next_form : Bool → Rest → Result (SlotForm × Rest) SlotFault
next_form false s = Ok (First, s)
next_form true s = reported_as as_slot_fault (next_byte s) >>= of_segment s.at

-- the number of tables, which has to be this one
abbrev pub next_count : ℕ → Rest → Result (ℕ × Rest) SlotFault
next_count tables s = slot_number w16 s >>= λ count. if nat_eq count.0 tables then Ok count else Err (slot_fault Range s.at)

-- what stands before the number of tables
unfoldable pub next_front : Rest → Result (Head × Rest) SlotFault
next_front s = next_name s
    >>= λ later. slot_number w64 later.1
    >>= λ txns. slot_number w64 txns.1
    >>= λ place. next_form later.0 place.1
    >>= λ form. Ok (record { txns = txns.0; place = place.0; form = form.0 }, form.1)

-- the head of a checkpoint of that many tables
unfoldable pub next_head : ℕ → Rest → Result (Head × Rest) SlotFault
next_head tables s = next_front s >>= λ front. next_count tables front.1 >>= λ count. Ok (front.0, count.1)

-- a row of this table, whose key has to be above the one before; keys are compared before the values are looked at
unfoldable pub next_row : Table → Option Key → Rest → Result (KeyedRow × Rest) SlotFault
next_row table before s = reported_as of_typed (next_key table.key s)
    >>= λ key. if is_above before key.0 then (reported_as of_typed (next_values (types table.columns) key.1) >>= λ values. Ok ((key.0, values.0), values.1)) else Err (slot_fault Order s.at)

-- that many rows of this table, after a key that came before
unfoldable pub next_rows : Table → ℕ → Option Key → Rest → Result (List KeyedRow × Rest) SlotFault
next_rows table zero before s = Ok ([], s)
next_rows table (suc n) before s = next_row table before s >>= λ row. next_rows table n (Some row.0.0) row.1 >>= λ rows. Ok (row.0 ∷ rows.0, rows.1)

-- how many rows this table has, and the rows
unfoldable pub next_table : Table → Rest → Result (List KeyedRow × Rest) SlotFault
next_table table s = slot_number w64 s >>= λ count. next_rows table count.0 None count.1

-- a checkpoint of these tables
unfoldable pub next_checkpoint : List Table → Rest → Result (Checkpoint × Rest) SlotFault
next_checkpoint tables s = next_head (length tables) s >>= λ head. along next_table tables head.1 >>= λ rows. Ok (record { head = head.0; tables = rows.0 }, rows.1)

-- the head of what is read, without the rest
abbrev pub head_alone : Result (Checkpoint × Rest) SlotFault → Result Head SlotFault
head_alone read = read >>= λ found. Ok found.0.head
