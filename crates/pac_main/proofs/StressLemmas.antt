-- How a stress test ends by its stop.
use Rattle.std.proofs.Common.{◌≡◌, ◌≤◌, ℕ, List, [], ◌∷◌, refl, sym, subst, arith}
use Rattle.pac_serial.specs.declared.serial.AllError.{AllError}
use Rattle.pac_serial.specs.declared.serial.AllError.TheVariants as serial
use Rattle.pac_stress.specs.Stressed.{GivesNoSummary, IsSummaryOf}
use Rattle.pac_main.specs.Causes.{StressStops}
use Rattle.pac_main.specs.Stop.{status_of, stop_of_serial}
use Rattle.pac_main.specs.Streams.{AnyFaulted, IsOneOf, Observed}
use Rattle.pac_main.specs.Stress.{StressEnds}
use Rattle.pac_main.specs.declared.stop.Stop.{Stop}
use Rattle.pac_main.specs.declared.stop.Stop.TheVariants.{Usage, Script as ScriptStop, NotEmpty, NoStore, Damaged, Aborted, RowsOver, InputFault, OutputFault, DiskFault, NoMemory, LogFull, TooLong, TooLarge, Image}
use Rattle.pac_main.proofs.StatusLemmas.{never_done, output_of}
use Rattle.pac_main.proofs.StopLemmas.{Reported, reported_cause}

-- what holds of the summary
pub summary-as : (count : ℕ) (P Q : List ℕ → Type 0) → ((all : List ℕ) → P all → Q all) → IsSummaryOf count P → IsSummaryOf count Q
summary-as count P Q then_so h = record {
  catalogue = h.catalogue;
  is = h.is;
  tables = h.tables;
  ends = h.ends;
  pieces = h.pieces;
  counted = h.counted;
  has = then_so _ h.has;
}

module _ (count : ℕ) (sink : Observed) where
  -- none of the transactions that the command takes aborts
  pub no-summary : count ≤ 100000 → (error : AllError) → GivesNoSummary count error → StressStops count sink (stop_of_serial error)
  no-summary few (serial.Abort note) h = absurd (omega (arith, few, h.1))
  no-summary few serial.NoMemory h = tt

  stress_status : (stop : Stop) → StressStops count sink stop → IsOneOf (status_of stop) (0 ∷ 7 ∷ 9 ∷ [])
  stress_status Usage h = absurd h
  stress_status (ScriptStop fault) h = absurd h
  stress_status (NotEmpty device length) h = absurd h
  stress_status NoStore h = absurd h
  stress_status (Damaged damage) h = absurd h
  stress_status (Aborted note) h = absurd h
  stress_status (RowsOver name rows most) h = absurd h
  stress_status InputFault h = absurd h
  stress_status OutputFault h = refl
  stress_status DiskFault h = absurd h
  stress_status NoMemory h = refl
  stress_status (LogFull need) h = absurd h
  stress_status TooLong h = absurd h
  stress_status (TooLarge bytes) h = absurd h
  stress_status (Image fault) h = absurd h

  -- where no write failed, there was no memory
  only_memory : (stop : Stop) → StressStops count sink stop → (AnyFaulted sink → ⊥) → IsOneOf (status_of stop) (0 ∷ 9 ∷ [])
  only_memory Usage h none = absurd h
  only_memory (ScriptStop fault) h none = absurd h
  only_memory (NotEmpty device length) h none = absurd h
  only_memory NoStore h none = absurd h
  only_memory (Damaged damage) h none = absurd h
  only_memory (Aborted note) h none = absurd h
  only_memory (RowsOver name rows most) h none = absurd h
  only_memory InputFault h none = absurd h
  only_memory OutputFault h none = absurd (none h.0)
  only_memory DiskFault h none = absurd h
  only_memory NoMemory h none = refl
  only_memory (LogFull need) h none = absurd h
  only_memory TooLong h none = absurd h
  only_memory (TooLarge bytes) h none = absurd h
  only_memory (Image fault) h none = absurd h

  stressed_reported : (stop : Stop) → StressStops count sink stop → StressEnds count (status_of stop) sink
  stressed_reported stop cause = record {
    statuses = stress_status stop cause;
    done = λ zero. absurd (never_done stop zero);
    output_fault = λ seven. subst (StressStops count sink) (output_of stop seven) cause;
    complete = only_memory stop cause;
  }

  pub stress-ends : (stop reported : Stop) (status : ℕ) → status ≡ status_of reported → Reported stop reported → StressStops count sink stop → StressEnds count status sink
  stress-ends stop reported status is which cause =
      subst (λ (n : ℕ). StressEnds count n sink) (sym is) (stressed_reported reported (reported_cause (StressStops count sink) stop reported which tt cause))
