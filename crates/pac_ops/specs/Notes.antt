-- The notes that aborts leave, their order, and the first of several.
use Rattle.std.specs.Prelude.{◌≡◌, ℕ, refl, List, [], ◌∷◌, if◌then◌else◌, Option, Some, None}
use Rattle.std.specs.declared.cmp.Ordering.{Ordering}
use Rattle.std.specs.Ordering.{nat_cmp, ordering_then, is_lt}
use Rattle.pac_ops.specs.declared.note.Note.{Note}
use Rattle.pac_ops.specs.declared.reason.Reason.{Reason}
use Rattle.pac_ops.specs.contracts.note.NoteOrd.TheImpl as note
use Rattle.pac_ops.specs.contracts.reason.ReasonOrd.TheImpl as reason
use Rattle.pac_ops.specs.declared.reason.Reason.TheVariants.{Missing, Overflow, DivZero, Asked}

-- the note of an operation, where it would abort
abbrev pub note_at : ℕ → ℕ → Option Reason → List Note
note_at txn op None = []
note_at txn op (Some reason) = record { txn = txn; op = op; reason = reason } ∷ []

-- the number of a reason
abbrev pub reason_number : Reason → ℕ
reason_number Missing = 1
reason_number Overflow = 2
reason_number DivZero = 3
reason_number Asked = 4

-- by transaction, then by operation, then by reason
abbrev pub note_cmp : Note → Note → Ordering
note_cmp a b = ordering_then (nat_cmp a.txn b.txn) (ordering_then (nat_cmp a.op b.op) (nat_cmp (reason_number a.reason) (reason_number b.reason)))

-- comparisons of reasons return the order of their numbers
pub reason_order : (a b : Reason) → (reason.ghosts).cmp a b ≡ nat_cmp (reason_number a) (reason_number b)
reason_order Missing Missing = refl
reason_order Missing Overflow = refl
reason_order Missing DivZero = refl
reason_order Missing Asked = refl
reason_order Overflow Missing = refl
reason_order Overflow Overflow = refl
reason_order Overflow DivZero = refl
reason_order Overflow Asked = refl
reason_order DivZero Missing = refl
reason_order DivZero Overflow = refl
reason_order DivZero DivZero = refl
reason_order DivZero Asked = refl
reason_order Asked Missing = refl
reason_order Asked Overflow = refl
reason_order Asked DivZero = refl
reason_order Asked Asked = refl

-- the derived order of notes is this one
pub note_order : (a b : Note) → (note.ghosts).cmp a b ≡ note_cmp a b
note_order a b = λ i. ordering_then (nat_cmp a.txn b.txn) (ordering_then (nat_cmp a.op b.op) (reason_order a.reason b.reason i))

-- the lesser of a note and another, if there is one
abbrev pub lesser_note : Note → Option Note → Note
lesser_note a None = a
lesser_note a (Some b) = if is_lt (note_cmp b a) then b else a

-- the least of the notes, where there is one
abbrev pub first_note : List Note → Option Note
first_note [] = None
first_note (note ∷ notes) = Some (lesser_note note (first_note notes))

-- the lesser of two notes, where there are two
abbrev pub least : Option Note → Option Note → Option Note
least None b = b
least (Some a) b = Some (lesser_note a b)
