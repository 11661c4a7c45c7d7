-- A step that finds no room, put together.
use Rattle.std.proofs.Common.{◌≡◌, ◌∙◌, ℕ, true, Option, Result, Err, refl, sym, ap, subst}
use Rattle.pac_outside.specs.Disk.{DiskHistory}
use Rattle.pac_outside.specs.declared.devices.Devices.{Devices}
use Rattle.pac_request.specs.declared.request.Request.{Request}
use Rattle.pac_request.specs.declared.request.Request.TheVariants.{Save}
use Rattle.pac_engine.specs.declared.fault.EngineCause.{EngineCause}
use Rattle.pac_engine.specs.declared.fault.EngineCause.TheVariants.{DiskFault, LogFull, TooLarge, Ended, NoMemory}
use Rattle.pac_engine.specs.declared.parts.EngineParts.{EngineParts}
use Rattle.pac_engine.specs.Handled.{StopsForRoom}
use Rattle.pac_engine.specs.Moves.{committed_parts}
use Rattle.pac_engine.specs.Standing.{HasDevices}

-- of two answers that are the same error
pub same-cause : {T : Type 0} {a b : EngineCause} → ◌≡◌ {A = Result T EngineCause} (Err a) (Err b) → a ≡ b
same-cause e = cc

-- being out of memory is no fault of a device
pub memory-no-disk : NoMemory ≡ DiskFault → ⊥
memory-no-disk e = cc

module _ {D : Type 0} (known : D → Option DiskHistory) (asked : Request) (before now : EngineParts) (old new : Devices D) where
  -- the group was not closed
  pub room-closed : (cause : EngineCause) → ((cause ≡ DiskFault → ⊥) → (new ≡ old) × HasDevices known now new) → now.log.gate ≡ before.log.gate → ((bytes : ℕ) → cause ≡ TooLarge bytes → ⊥) → StopsForRoom known asked cause before now old new
  room-closed (LogFull need) uncalled gate small = let here = uncalled (λ e. cc) in (here.0, gate, here.1)
  room-closed (TooLarge bytes) uncalled gate small = absurd (small bytes refl)
  room-closed DiskFault uncalled gate small = tt
  room-closed NoMemory uncalled gate small = tt
  room-closed Ended uncalled gate small = tt

  -- there was no memory
  pub room-none : (cause : EngineCause) → cause ≡ NoMemory → StopsForRoom known asked cause before now old new
  room-none cause is = subst (λ (other : EngineCause). StopsForRoom known asked other before now old new) (sym is) tt

  -- the group was closed, and the checkpoint was not saved
  pub room-saved : asked ≡ Save → (mid : EngineParts) (middle : Devices D) → mid ≡ committed_parts before → middle.slot_a ≡ old.slot_a → middle.slot_b ≡ old.slot_b → HasDevices known mid middle → (cause : EngineCause)
      → ((need : ℕ) → cause ≡ LogFull need → ⊥) → ((bytes : ℕ) → cause ≡ TooLarge bytes → (now ≡ mid) × (new ≡ middle)) → StopsForRoom known asked cause before now old new
  room-saved save mid middle closed a b has (LogFull need) some uncalled = absurd (some need refl)
  room-saved save mid middle closed a b has (TooLarge bytes) some uncalled =
      let here = uncalled bytes refl in (
        save,
        ap (λ (d : Devices D). d.slot_a) here.1 ∙ a,
        ap (λ (d : Devices D). d.slot_b) here.1 ∙ b,
        ap (λ (e : EngineParts). e.log.gate) here.0 ∙ ap (λ (e : EngineParts). e.log.gate) closed,
        subst (λ (e : EngineParts). HasDevices known e new) (sym here.0) (subst (λ (d : Devices D). HasDevices known mid d) (sym here.1) has),
      )
  room-saved save mid middle closed a b has DiskFault some uncalled = tt
  room-saved save mid middle closed a b has NoMemory some uncalled = tt
  room-saved save mid middle closed a b has Ended some uncalled = tt

  -- the flag of the engine says nothing of it
  pub room-flagged : (inside : EngineParts) → inside ≡ before → (flagged : EngineParts) → flagged ≡ record now { ended = true } → (cause : EngineCause) → StopsForRoom known asked cause inside now old new → StopsForRoom known asked cause before flagged old new
  room-flagged inside same flagged is cause stops = subst (λ (e : EngineParts). StopsForRoom known asked cause before e old new) (sym is) (of cause (subst (λ (e : EngineParts). StopsForRoom known asked cause e now old new) same stops))
    where
      has-flag : HasDevices known now new → HasDevices known (record now { ended = true }) new
      has-flag has = record { log = has.log; slot_a = has.slot_a; slot_b = has.slot_b }

      of : (cause : EngineCause) → StopsForRoom known asked cause before now old new → StopsForRoom known asked cause before (record now { ended = true }) old new
      of (LogFull need) is = (is.0, is.1, has-flag is.2)
      of (TooLarge bytes) is = (is.0, is.1, is.2, is.3, has-flag is.4)
      of DiskFault is = tt
      of NoMemory is = tt
      of Ended is = tt
