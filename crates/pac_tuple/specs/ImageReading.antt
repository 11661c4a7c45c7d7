-- How the after-images of a transaction are read, up to the first fault.
use Rattle.std.specs.Prelude.{◌≡◌, ◌++◌, ◌+◌, ℕ, zero, suc, List, [], ◌∷◌, Option, Some, None, Result, Ok, Err, nat_eq, nat_lt, if◌then◌else◌}
use Rattle.std.specs.Int.{w16}
use Rattle.pac_value.specs.Expressions.{◌>>=◌}
use Rattle.pac_value.specs.State.{Cell}
use Rattle.pac_ops.specs.declared.transaction.Change.{Change}
use Rattle.pac_types.specs.declared.table.Table.{Table}
use Rattle.pac_base.specs.declared.refusal.Refusal.{Refusal}
use Rattle.pac_base.specs.declared.refusal.Refusal.TheVariants.{Fault, NoMemory}
use Rattle.pac_bytes.specs.Reading.{Rest, from, reported_as, next_byte, next_uint}
use Rattle.pac_entry.specs.EntryReading.{next_cell, next_change}
use Rattle.pac_tuple.specs.declared.fault.ImageFault.{ImageFault}
use Rattle.pac_tuple.specs.declared.fault.ImageFaultKind.TheVariants.{Tag, TooMany, Order}
use Rattle.pac_tuple.specs.declared.images.TheConstants.{MAX_IMAGES}
use Rattle.pac_serial.specs.Writes.{image_cell}
use Rattle.pac_tuple.specs.Images.{is_cell_above}
use Rattle.pac_tuple.specs.Kinds.{image_fault_at, as_short_image, as_image_fault}

-- the tag
abbrev pub image_byte : Rest → Result (ℕ × Rest) ImageFault
image_byte s = reported_as as_short_image (next_byte s)

-- the number of images
abbrev pub image_number : Rest → Result (ℕ × Rest) ImageFault
image_number s = reported_as as_short_image (next_uint w16 s)

-- a record whose cell is above the last one. The cell is compared once its key is read, before anything behind it is; the
-- key stands after the tag and the table's number.
unfoldable pub next_image : List Table → Option Cell → Rest → Result (Change × Rest) ImageFault
next_image tables last s = reported_as as_image_fault (next_cell tables s)
    >>= λ cell. if is_cell_above last cell.0 then reported_as as_image_fault (next_change tables s) else Err (image_fault_at Order (s.at + 3))

-- that many records, the first after the last cell and each after the one before
unfoldable pub next_ascending : List Table → Option Cell → ℕ → Rest → Result (List Change × Rest) ImageFault
next_ascending tables last zero s = Ok ([], s)
next_ascending tables last (suc n) s = next_image tables last s
    >>= λ image. next_ascending tables (Some (image_cell image.0)) n image.1
    >>= λ images. Ok (image.0 ∷ images.0, images.1)

-- the number of images, which is not too large, and the images
unfoldable pub counted_images : List Table → Rest → Result (List Change × Rest) ImageFault
counted_images tables s = image_number s
    >>= λ n. if nat_lt MAX_IMAGES n.0 then Err (image_fault_at TooMany s.at) else next_ascending tables None n.0 n.1

-- a list: the tag 3, and the images
unfoldable pub next_images : List Table → Rest → Result (List Change × Rest) ImageFault
next_images tables s = image_byte s
    >>= λ tag. if nat_eq tag.0 3 then counted_images tables tag.1 else Err (image_fault_at Tag s.at)

-- one list was read from the offset on, and added to those before; or its first fault was found, or there was no memory,
-- and the lists are as before
abbrev pub ReadsOneList : List Table → List ℕ → ℕ → List (List Change) → List (List Change) → Result ℕ (Refusal ImageFault) → Type 0
ReadsOneList tables bytes at old new (Ok end) = (images : List Change) × (next_images tables (from bytes at) ≡ Ok (images, from bytes end)) × (new ≡ old ++ images ∷ [])
ReadsOneList tables bytes at old new (Err (Fault fault)) = (next_images tables (from bytes at) ≡ Err fault) × (new ≡ old)
ReadsOneList tables bytes at old new (Err NoMemory) = new ≡ old
