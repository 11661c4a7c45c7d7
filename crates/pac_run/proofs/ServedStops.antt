-- A run that was served doesn't stop as one whose store isn't opened.
use Rattle.std.proofs.Common.{◌≡◌, ℕ, List, Option, Result, Ok, Err, refl, sym, subst}
use Rattle.std.specs.Prelude.{IfErr, IsErrAnd}
use Rattle.pac_outside.specs.Disk.{DiskHistory}
use Rattle.pac_outside.specs.declared.devices.Devices.{Devices}
use Rattle.pac_engine.specs.declared.parts.EngineParts.{EngineParts}
use Rattle.pac_run.specs.declared.stop.RunStop.{RunStop}
use Rattle.pac_run.specs.declared.stop.RunStop.TheVariants.{Opening, InputFault, OutputFault, DiskFault, NoMemory, LogFull, TooLong, TooLarge}
use Rattle.pac_run.specs.Serving.{Served}
use Rattle.pac_run.specs.Stopping.{DeviceFailed, RefusesStore}

module _ {first now : EngineParts} {left left' held held' : Option (List ℕ)} {histories histories' : Devices (Option DiskHistory)} {faulted : Type 0} where
  -- it refuses no store
  pub refuses-none : (P : Type 0) (run : Result (Unit {0}) RunStop) → Served first now left left' held held' histories histories' faulted run → IfErr run (λ stop. RefusesStore stop → P)
  refuses-none P (Ok done) served = tt
  refuses-none P (Err (Opening error)) served = absurd served.there
  refuses-none P (Err InputFault) served = λ h. absurd h
  refuses-none P (Err OutputFault) served = λ h. absurd h
  refuses-none P (Err DiskFault) served = λ h. absurd h
  refuses-none P (Err NoMemory) served = λ h. absurd h
  refuses-none P (Err (LogFull need)) served = λ h. absurd h
  refuses-none P (Err TooLong) served = λ h. absurd h
  refuses-none P (Err (TooLarge bytes)) served = λ h. absurd h

  -- a device that failed did so while it was served
  pub device-failed : (P : Type 0) (run : Result (Unit {0}) RunStop) → Served first now left left' held held' histories histories' faulted run → (run ≡ Err DiskFault → P) → IfErr run (λ stop. DeviceFailed stop → P)
  device-failed P (Ok done) served failed = tt
  device-failed P (Err (Opening error)) served failed = absurd served.there
  device-failed P (Err InputFault) served failed = λ h. absurd h
  device-failed P (Err OutputFault) served failed = λ h. absurd h
  device-failed P (Err DiskFault) served failed = λ h. failed refl
  device-failed P (Err NoMemory) served failed = λ h. absurd h
  device-failed P (Err (LogFull need)) served failed = λ h. absurd h
  device-failed P (Err TooLong) served failed = λ h. absurd h
  device-failed P (Err (TooLarge bytes)) served failed = λ h. absurd h

pub fault-is : (run : Result (Unit {0}) RunStop) → run ≡ Err DiskFault → IsErrAnd run DeviceFailed
fault-is run is = subst (λ (r : Result (Unit {0}) RunStop). IsErrAnd r DeviceFailed) (sym is) tt

-- an answer without an error has none
pub none-failed : {T E : Type 0} (x : T) (error : E) → ◌≡◌ {A = Result T E} (Ok x) (Err error) → ⊥
none-failed x error e = cc
