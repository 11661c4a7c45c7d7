-- What recording the after-images of transactions gives.
use Rattle.std.specs.Prelude.{List, Result, Ok, Err}
use Rattle.pac_ops.specs.declared.transaction.Change.{Change}
use Rattle.pac_serial.specs.declared.serial.AllError.{AllError}
use Rattle.pac_serial.specs.declared.serial.AllError.TheVariants.{Abort as AbortOf, NoMemory as NoMemoryForAll}
use Rattle.pac_tuple.specs.declared.recording.ImagesError.{ImagesError}
use Rattle.pac_tuple.specs.declared.recording.ImagesError.TheVariants.{Abort, NoMemory}

-- how the execution ends, as it does without images
abbrev pub without_images : Result (List (List Change)) ImagesError → Result (Unit {0}) AllError
without_images (Ok images) = Ok tt
without_images (Err (Abort note images)) = Err (AbortOf note)
without_images (Err NoMemory) = Err NoMemoryForAll

-- it is so of the images that are given: those of all transactions, or of those before one that aborts
abbrev pub OfImages : Result (List (List Change)) ImagesError → (List (List Change) → Type 0) → Type 0
OfImages (Ok images) P = P images
OfImages (Err (Abort note images)) P = P images
OfImages (Err NoMemory) P = Unit {0}
