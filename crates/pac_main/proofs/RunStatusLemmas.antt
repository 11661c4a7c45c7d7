-- The stops of a run that end the command with each status.
use Rattle.std.proofs.Common.{◌≡◌, ◌⊎◌, ℕ, List, inl, inr, refl, subst}
use Rattle.pac_ops.specs.declared.note.Note.{Note}
use Rattle.pac_restore.specs.declared.errors.Damage.{Damage}
use Rattle.pac_restore.specs.declared.errors.LoadError.TheVariants as load
use Rattle.pac_restore.specs.declared.errors.RecoverError.TheVariants as recover
use Rattle.pac_run.specs.Stopping.{DeviceFailed}
use Rattle.pac_run.specs.declared.stop.RunStop.{RunStop}
use Rattle.pac_run.specs.declared.stop.RunStop.TheVariants as run
use Rattle.pac_main.specs.Stop.{status_of, stop_of_run}
use Rattle.pac_main.proofs.StatusLemmas.{or_next}

pub record RunDamage (why : RunStop) : Type 0 where
  pub damage : Damage
  pub is : why ≡ run.Opening (recover.Load (load.Damaged damage))

pub record RunAbort (why : RunStop) : Type 0 where
  pub note : Note
  pub is : why ≡ run.Opening (recover.AbortInLog note)

pub record RunOver (why : RunStop) : Type 0 where
  pub name : List ℕ
  pub rows : ℕ
  pub most : ℕ
  pub is : why ≡ run.Opening (recover.RowsOver name rows most)

pub record RunFull (why : RunStop) : Type 0 where
  pub need : ℕ
  pub is : why ≡ run.LogFull need

pub record RunLarge (why : RunStop) : Type 0 where
  pub bytes : ℕ
  pub is : why ≡ run.TooLarge bytes

-- what a run's stop of each status is, from 0 on
abbrev RunOfStatus : RunStop → ℕ → Type 0
RunOfStatus w = or_next ⊥ (or_next ⊥ (or_next ⊥ (or_next ((w ≡ run.Opening (recover.Load load.NoStore)) ⊎ RunDamage w) (or_next (RunAbort w) (or_next (RunOver w) (or_next (w ≡ run.InputFault) (or_next (w ≡ run.OutputFault)
    (or_next (DeviceFailed w) (or_next ((w ≡ run.Opening (recover.Load load.NoMemory)) ⊎ (w ≡ run.NoMemory)) (or_next (RunFull w) (or_next (w ≡ run.TooLong) (or_next (RunLarge w) (λ _. ⊥)))))))))))))

run_of_its_status : (why : RunStop) → RunOfStatus why (status_of (stop_of_run why))
run_of_its_status (run.Opening (recover.Load load.NoStore)) = inl refl
run_of_its_status (run.Opening (recover.Load (load.Damaged damage))) = inr (record { damage = damage; is = refl })
run_of_its_status (run.Opening (recover.Load load.DiskFault)) = refl
run_of_its_status (run.Opening (recover.Load load.NoMemory)) = inl refl
run_of_its_status (run.Opening (recover.AbortInLog note)) = record { note = note; is = refl }
run_of_its_status (run.Opening (recover.RowsOver name rows most)) = record { name = name; rows = rows; most = most; is = refl }
run_of_its_status run.InputFault = refl
run_of_its_status run.OutputFault = refl
run_of_its_status run.DiskFault = tt
run_of_its_status run.NoMemory = inr refl
run_of_its_status (run.LogFull need) = record { need = need; is = refl }
run_of_its_status run.TooLong = refl
run_of_its_status (run.TooLarge bytes) = record { bytes = bytes; is = refl }

module _ (why : RunStop) where
  run_of_status : (status : ℕ) → status_of (stop_of_run why) ≡ status → RunOfStatus why status
  run_of_status status is = subst (λ (n : ℕ). RunOfStatus why n) is (run_of_its_status why)

  pub run_never_done : status_of (stop_of_run why) ≡ 0 → ⊥
  run_never_done = run_of_status 0

  pub run_refused_of : status_of (stop_of_run why) ≡ 3 → (why ≡ run.Opening (recover.Load load.NoStore)) ⊎ RunDamage why
  run_refused_of = run_of_status 3

  pub run_aborted_of : status_of (stop_of_run why) ≡ 4 → RunAbort why
  run_aborted_of = run_of_status 4

  pub run_over_of : status_of (stop_of_run why) ≡ 5 → RunOver why
  run_over_of = run_of_status 5

  pub run_input_of : status_of (stop_of_run why) ≡ 6 → why ≡ run.InputFault
  run_input_of = run_of_status 6

  pub run_output_of : status_of (stop_of_run why) ≡ 7 → why ≡ run.OutputFault
  run_output_of = run_of_status 7

  pub run_disk_of : status_of (stop_of_run why) ≡ 8 → DeviceFailed why
  run_disk_of = run_of_status 8

  pub run_full_of : status_of (stop_of_run why) ≡ 10 → RunFull why
  run_full_of = run_of_status 10

  pub run_long_of : status_of (stop_of_run why) ≡ 11 → why ≡ run.TooLong
  run_long_of = run_of_status 11

  pub run_large_of : status_of (stop_of_run why) ≡ 12 → RunLarge why
  run_large_of = run_of_status 12
