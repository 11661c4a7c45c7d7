-- The bytes of a log, and which batches stand in an image of it.
use Rattle.std.specs.Prelude.{◌≡◌, ◌≤◌, ◌+◌, ◌⊎◌, ℕ, List, [], ◌∷◌, ◌++◌, length, codes}
use Rattle.std.specs.Int.{w32, w64, to_le_bytes}
use Rattle.std.specs.List.{All}
use Rattle.pac_ops.specs.declared.transaction.Txn.{Txn}
use Rattle.pac_types.specs.Accepted.{IsAccepted}
use Rattle.pac_types.specs.Typing.{CatalogueState}
use Rattle.pac_outside.specs.Disk.{DiskHistory, LeavesOnly}
use Rattle.pac_outside.specs.GateByte.{IsShut, OneImage}
use Rattle.pac_log.specs.declared.header.Header.{Header}
use Rattle.pac_log.specs.declared.header.HeaderForm.{HeaderForm}
use Rattle.pac_log.specs.declared.header.HeaderForm.TheVariants.{First, Later}
use Rattle.pac_log.specs.declared.limits.TheConstants.{MAX_BASE}
use Rattle.pac_log.specs.Bodies.{body_bytes, IsBody}

-- how many transactions came before the log's own
abbrev pub base_in : HeaderForm → ℕ
base_in First = 0
base_in (Later base) = base

abbrev pub base_of : Header → ℕ
base_of header = base_in header.form

-- the name that a log begins with, and after the second name the number of the transactions that came before
abbrev pub form_bytes : HeaderForm → List ℕ
form_bytes First = codes "PACMLOG1"
form_bytes (Later base) = codes "PACMLOG2" ++ to_le_bytes w64 base

-- and then the length of the catalogue's text
abbrev pub start_bytes : HeaderForm → ℕ → List ℕ
start_bytes form len = form_bytes form ++ to_le_bytes w32 len

-- a log begins with these, and the text
abbrev pub header_bytes : Header → List ℕ
header_bytes header = start_bytes header.form (length header.text) ++ header.text

-- the header of a text in this form
abbrev pub header_with : HeaderForm → List ℕ → Header
header_with form text = record { form = form; text = text }

-- each batch after an open gate
abbrev pub open_bodies : List (List Txn) → List ℕ
open_bodies [] = []
open_bodies (txns ∷ batches) = 1 ∷ (body_bytes txns ++ open_bodies batches)

-- what stands before the gate that comes after these batches
abbrev pub log_prefix : Header → List (List Txn) → List ℕ
log_prefix header batches = header_bytes header ++ open_bodies batches

-- the transactions of these batches, one after another
abbrev pub all_txns : List (List Txn) → List Txn
all_txns [] = []
all_txns (txns ∷ batches) = txns ++ all_txns batches

-- the number of the last of these transactions, where the first has the number after the log's base
abbrev pub number_after : Header → List (List Txn) → ℕ
number_after header batches = base_of header + length (all_txns batches)

-- the header's text has the catalogue, few transactions came before, and each of the batches is one of the catalogue
pub record AreBatches (header : Header) (catalogue : CatalogueState) (batches : List (List Txn)) : Type 0 where
  pub accepted : IsAccepted header.text catalogue
  pub base : base_of header ≤ MAX_BASE
  pub each : All (IsBody catalogue) batches

-- the image is that of a log with this header and catalogue, in which these batches stand and no other
pub record HoldsLog (header : Header) (catalogue : CatalogueState) (batches : List (List Txn)) (image : List ℕ) : Type 0 where
  pub log : AreBatches header catalogue batches
  pub shut : IsShut (log_prefix header batches) image

-- after some of these batches, whose last transaction has this number, stands the gate at this offset
pub record HasGate (header : Header) (batches : List (List Txn)) (place number : ℕ) : Type 0 where
  pub before : List (List Txn)
  pub after : List (List Txn)
  pub split : batches ≡ before ++ after
  pub there : place ≡ length (log_prefix header before)
  pub counted : number ≡ number_after header before

-- at each moment a crash leaves these batches, or these and the new one
abbrev pub KeepsOrAdds : Header → CatalogueState → List (List Txn) → List Txn → DiskHistory → DiskHistory → Type 0
KeepsOrAdds header catalogue batches txns old new = OneImage (HoldsLog header catalogue batches) old.now
    → LeavesOnly (λ image. HoldsLog header catalogue batches image ⊎ HoldsLog header catalogue (batches ++ txns ∷ []) image) old new

-- afterwards the one image has the new batch too
abbrev pub AddsBatch : Header → CatalogueState → List (List Txn) → List Txn → DiskHistory → DiskHistory → Type 0
AddsBatch header catalogue batches txns old new = OneImage (HoldsLog header catalogue batches) old.now → OneImage (HoldsLog header catalogue (batches ++ txns ∷ [])) new.now
