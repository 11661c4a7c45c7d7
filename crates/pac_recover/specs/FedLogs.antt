-- What a feed of a log gives between two of its states.
use Rattle.std.specs.Prelude.{◌≡◌, ◌≤◌, ◌<◌, ◌+◌, ◌-◌, ℕ, Bool, true, false, List, [], ◌∷◌, ◌++◌, length, Option, Some, None}
use Rattle.pac_ops.specs.declared.batch.Batch.{Batch}
use Rattle.pac_ops.specs.declared.transaction.Txn.{Txn}
use Rattle.pac_outside.specs.Causes.{one_more}
use Rattle.pac_outside.specs.Disk.{DiskHistory, IfKnown}
use Rattle.pac_log.specs.declared.damage.DamageKind.{DamageKind}
use Rattle.pac_log.specs.declared.header.Header.{Header}
use Rattle.pac_log.specs.declared.errors.LogError.{LogError}
use Rattle.pac_log.specs.declared.errors.LogError.TheVariants as error
use Rattle.pac_log.specs.declared.position.NextGate.{NextGate}
use Rattle.pac_log.specs.Bodies.{body_bytes}
use Rattle.pac_log.specs.Reading.{StandsAfter}
use Rattle.pac_recover.specs.declared.log_feed.FeedEnd.{FeedEnd}
use Rattle.pac_recover.specs.declared.log_feed.FeedEnd.TheVariants.{Window, End, Refused}
use Rattle.pac_restore.specs.Batches.{txns_by_batch}
use Rattle.pac_restore.specs.Reads.{AreRead, HoldsTo, IsDamagedAfter, ReadsFurther}

-- what is known of a disk is said of it after whatever batches of a log stand there before the gate
abbrev pub AfterAny : Option DiskHistory → (Header → List (List Txn) → List ℕ → Type 0) → Type 0
AfterAny known What = (header : Header) (before : List (List Txn)) → IfKnown (λ h. What header before h.now.seen) known

-- these batches stand there up to the next gate
abbrev pub AreFurther : Option DiskHistory → NextGate → NextGate → List Batch → Type 0
AreFurther known old new given = AfterAny known (λ header before image. ReadsFurther header before old new given image)

-- and no more
abbrev pub AreLast : Option DiskHistory → NextGate → NextGate → List Batch → Type 0
AreLast known old new given = AfterAny known (λ header before image. StandsAfter header before old image → HoldsTo header old.catalogue (before ++ txns_by_batch given) new image)

-- there is this first damage
abbrev pub IsDamagedThere : Option DiskHistory → NextGate → ℕ → DamageKind → Type 0
IsDamagedThere known old at kind = AfterAny known (λ header before image. StandsAfter header before old image → IsDamagedAfter header old.catalogue at kind image)

-- how it ended: nothing comes after the last batch, or this is the first damage
abbrev pub EndsAs : Option DiskHistory → NextGate → NextGate → List Batch → Option FeedEnd → Type 0
EndsAs known old new given None = Unit {0}
EndsAs known old new given (Some Window) = Unit {0}
EndsAs known old new given (Some End) = AreLast known old new given
EndsAs known old new given (Some (Refused error.NoStore)) = ⊥
EndsAs known old new given (Some (Refused (error.Damaged at kind))) = IsDamagedThere known old at kind
EndsAs known old new given (Some (Refused error.DiskFault)) = Unit {0}
EndsAs known old new given (Some (Refused error.NoMemory)) = Unit {0}

-- a call of the disk failed only where that ended it
abbrev pub AreCounted : ℕ → ℕ → Option FeedEnd → Type 0
AreCounted before now None = now ≡ before
AreCounted before now (Some Window) = now ≡ before
AreCounted before now (Some End) = now ≡ before
AreCounted before now (Some (Refused error.NoStore)) = now ≡ before
AreCounted before now (Some (Refused (error.Damaged at kind))) = now ≡ before
AreCounted before now (Some (Refused error.DiskFault)) = now ≡ one_more before
AreCounted before now (Some (Refused error.NoMemory)) = now ≡ before

-- how many bytes the bodies of these batches have
abbrev pub bodies_len : List Batch → ℕ
bodies_len [] = 0
bodies_len (batch ∷ batches) = length (body_bytes batch.txns) + bodies_len batches

-- how an end goes with the bytes that were given of a window
abbrev pub FillsAs : ℕ → ℕ → Option FeedEnd → Type 0
FillsAs window given None = Unit {0}
FillsAs window given (Some Window) = window ≤ given
FillsAs window given (Some End) = given < window
FillsAs window given (Some (Refused cause)) = given < window

-- This number of bytes is missing now until the window is full. If more could be given at first, it ended with the window exactly where the bodies that
-- were given are as long as it.
pub record AreBodiesCounted (missing now : ℕ) (given : List Batch) (first end : Option FeedEnd) : Type 0 where
  pub counted : now ≡ missing - bodies_len given
  pub ends : first ≡ None → FillsAs missing (bodies_len given) end

-- whether the log ends there
abbrev pub is_end : Option FeedEnd → Bool
is_end None = false
is_end (Some Window) = false
is_end (Some End) = true
is_end (Some (Refused cause)) = false

-- why a batch couldn't be read, where that ended it
abbrev pub refusal_of : Option FeedEnd → Option LogError
refusal_of None = None
refusal_of (Some Window) = None
refusal_of (Some End) = None
refusal_of (Some (Refused cause)) = Some cause

-- Between these gates these batches were given, each with a transaction, and what is known of the disk is as before. If more could be
-- given at first, this is how it ended, where it did.
pub record IsGivenOfLog (known now : Option DiskHistory) (old new : NextGate) (given : List Batch) (first end : Option FeedEnd) : Type 0 where
  pub same : now ≡ known
  pub read : AreRead old new given
  pub grows : old.txns + length given ≤ new.txns
  pub further : AreFurther known old new given
  pub ends : first ≡ None → EndsAs known old new given end
