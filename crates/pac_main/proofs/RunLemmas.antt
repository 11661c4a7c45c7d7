-- Why a run stops, and how the command ends by the stop that is reported.
use Rattle.std.proofs.Common.{◌≡◌, ◌≢◌, ◌⊎◌, ℕ, Bool, true, false, List, [], ◌∷◌, ◌++◌, ◌≤◌, ◌+◌, length, take, Option, Some, None, Result, Ok, Err, inl, inr, refl, sym, ap, subst, ◌∙◌, arith}
use Rattle.std.specs.Prelude.{IsSomeAnd, IsTrue}
use Rattle.std.specs.Io.KnownBytes.{prepend_known}
use Rattle.std.specs.List.{AllByRecursion}
use Rattle.std.proofs.lemmas.List.{length-append}
use Rattle.std.proofs.Math.Seq.{take-nil}
use Rattle.pac_ops.specs.declared.transaction.Txn.{Txn}
use Rattle.pac_outside.specs.Devices.{OneFaulted, WhileAllKnown, each}
use Rattle.pac_outside.specs.Disk.{DiskHistory}
use Rattle.pac_outside.specs.Parts.{reads_of}
use Rattle.pac_outside.specs.declared.devices.Devices.{Devices}
use Rattle.pac_types.specs.Typing.{CatalogueState}
use Rattle.pac_store.specs.Images.{IfImagesKnown}
use Rattle.pac_store.specs.Stands.{StandsFor}
use Rattle.pac_store.proofs.ImageLemmas.{images-any, images-then, where-known}
use Rattle.pac_restore.specs.declared.errors.LoadError.TheVariants as load
use Rattle.pac_restore.specs.declared.errors.RecoverError.{RecoverError}
use Rattle.pac_restore.specs.declared.errors.RecoverError.TheVariants as recover
use Rattle.pac_restore.specs.Prefixes.{IsPrefixOverLimit}
use Rattle.pac_restore.specs.Restoring.{AreRefused}
use Rattle.pac_restore.proofs.StandsLemmas.{is-store, no-abort, no-damage, over-prefix}
use Rattle.pac_session.specs.Groups.{Group, LogSpot}
use Rattle.pac_session.specs.Session.{Rules, SessionState}
use Rattle.pac_engine.specs.Closing.{GroupFits}
use Rattle.pac_request.specs.declared.request.Request.{Request}
use Rattle.pac_request.specs.declared.request.Reply.{Reply}
use Rattle.pac_run.specs.Run.{IsRun}
use Rattle.pac_run.specs.declared.limits.TheConstants.{MAX_INPUT}
use Rattle.pac_run.specs.Stopping.{DeviceFailed, IsStopped, RefusesStore, closed_groups}
use Rattle.pac_run.specs.Texts.{IsTextPrefix, texts}
use Rattle.pac_run.specs.declared.stop.RunStop.{RunStop}
use Rattle.pac_run.specs.declared.stop.RunStop.TheVariants as run
use Rattle.pac_main.specs.Causes.{RunCause}
use Rattle.pac_main.specs.Histories.{FoundStanding, LeavesHistory}
use Rattle.pac_main.specs.Recover.{IsRefusedStore, StoredInLimit}
use Rattle.pac_main.specs.Run.{HaveRoom, LeavesStore, RunEnds, RunsOnPrefix}
use Rattle.pac_main.specs.Stop.{line_of, status_of, stop_of_recover, stop_of_run, takes_memory}
use Rattle.pac_main.specs.Streams.{AnyFaulted, IsFaultless, IsOneOf, IsReported, Observed, ObservedDevices}
use Rattle.pac_main.specs.declared.stop.Stop.{Stop}
use Rattle.pac_main.specs.declared.stop.Stop.TheVariants as stop
use Rattle.pac_main.proofs.HistoryLemmas.{leaves-history}
use Rattle.pac_main.proofs.IdleLemmas.{idle-run, no_memory}
use Rattle.pac_main.proofs.InputLemmas.{some_is}
use Rattle.pac_main.proofs.RecoverLemmas.{uncalled}
use Rattle.pac_main.proofs.RunStatusLemmas.{RunDamage, run_aborted_of, run_disk_of, run_full_of, run_input_of, run_large_of, run_long_of, run_never_done, run_output_of, run_over_of, run_refused_of}
use Rattle.pac_main.proofs.StopLemmas.{Reported}

-- ---- why a run stops

-- two stops are the same
abbrev pub IsStop : RunStop → RunStop → Type 0
IsStop why other = ◌≡◌ {A = Result (Unit {0}) RunStop} (Err why) (Err other)

module _ (limit : ℕ) (source sink : Observed) (before : Devices (Option DiskHistory)) (was is : Devices ℕ) where
  -- what a run says with its stop
  pub record ReportsStop (why : RunStop) : Type 0 where
    pub refused : (error : RecoverError) → IsStop why (run.Opening error) → AreRefused limit before error
    pub input_fault : IsStop why run.InputFault → AnyFaulted source
    pub output_fault : IsStop why run.OutputFault → AnyFaulted sink
    pub disk_fault : DeviceFailed why → OneFaulted was is

  module _ (after : Devices (Option DiskHistory)) where
    pub run-cause : (why : RunStop) → ReportsStop why → RunCause limit source sink (record { before = before; after = after; faults_before = was; faults_after = is }) why
    run-cause (run.Opening error) h = (h.refused error refl, h.disk_fault)
    run-cause run.InputFault h = h.input_fault refl
    run-cause run.OutputFault h = h.output_fault refl
    run-cause run.DiskFault h = h.disk_fault tt
    run-cause run.NoMemory h = tt
    run-cause (run.LogFull need) h = tt
    run-cause run.TooLong h = tt
    run-cause (run.TooLarge bytes) h = tt

-- ---- on devices that stand for a history

-- why a run stops there
abbrev pub IsPrefixStop : ℕ → CatalogueState → List Txn → ℕ → RunStop → Type 0
IsPrefixStop limit catalogue history least (run.Opening (recover.Load load.NoStore)) = ⊥
IsPrefixStop limit catalogue history least (run.Opening (recover.Load (load.Damaged damage))) = ⊥
IsPrefixStop limit catalogue history least (run.Opening (recover.AbortInLog note)) = ⊥
IsPrefixStop limit catalogue history least (run.Opening (recover.RowsOver name rows most)) = IsPrefixOverLimit catalogue history least name rows limit
IsPrefixStop limit catalogue history least _ = Unit {0}

module _ (limit : ℕ) (source sink : Observed) (after : Devices (Option DiskHistory)) (was is : Devices ℕ) (text : List ℕ) (catalogue : CatalogueState) (history : List Txn) (least : ℕ) where
  abbrev held_by : Devices (Option DiskHistory) → ObservedDevices
  held_by before = record { before = before; after = after; faults_before = was; faults_after = is }

  prefix_here : (known : Devices DiskHistory) (why : RunStop) → RunCause limit source sink (held_by (each Some known)) why → StandsFor text catalogue history least (reads_of known) → IsPrefixStop limit catalogue history least why
  prefix_here known (run.Opening (recover.Load load.NoStore)) h stands = is-store text catalogue history least known stands h.0
  prefix_here known (run.Opening (recover.Load (load.Damaged damage))) h stands = no-damage text catalogue history least known stands damage h.0
  prefix_here known (run.Opening (recover.Load load.DiskFault)) h stands = tt
  prefix_here known (run.Opening (recover.Load load.NoMemory)) h stands = tt
  prefix_here known (run.Opening (recover.AbortInLog note)) h stands = no-abort text catalogue history least (reads_of known) stands note h.0
  prefix_here known (run.Opening (recover.RowsOver name rows most)) h stands = over-prefix text catalogue history least (reads_of known) stands name rows limit h.0.1
  prefix_here known run.InputFault h stands = tt
  prefix_here known run.OutputFault h stands = tt
  prefix_here known run.DiskFault h stands = tt
  prefix_here known run.NoMemory h stands = tt
  prefix_here known (run.LogFull need) h stands = tt
  prefix_here known run.TooLong h stands = tt
  prefix_here known (run.TooLarge bytes) h stands = tt

  pub run-prefix : (before : Devices (Option DiskHistory)) (why : RunStop) → RunCause limit source sink (held_by before) why
      → IfImagesKnown (λ images. StandsFor text catalogue history least images → IsPrefixStop limit catalogue history least why) before
  run-prefix before why = where-known (λ d. RunCause limit source sink (held_by d) why) (λ images. StandsFor text catalogue history least images → IsPrefixStop limit catalogue history least why) (λ known. prefix_here known why) before

-- ---- how the command ends

-- a status that no stored cause has
other_prefix : (limit n : ℕ) (catalogue : CatalogueState) (history : List Txn) (least : ℕ) → n ≢ 3 → n ≢ 4 → n ≢ 5 → RunsOnPrefix limit n catalogue history least
other_prefix limit n catalogue history least three four five = record { undamaged = three; executes = four; over_limit = λ e. absurd (five e) }

prefix_of : (limit : ℕ) (catalogue : CatalogueState) (history : List Txn) (least : ℕ) (why : RunStop) → IsPrefixStop limit catalogue history least why → RunsOnPrefix limit (status_of (stop_of_run why)) catalogue history least
prefix_of limit catalogue history least (run.Opening (recover.Load load.NoStore)) h = absurd h
prefix_of limit catalogue history least (run.Opening (recover.Load (load.Damaged damage))) h = absurd h
prefix_of limit catalogue history least (run.Opening (recover.Load load.DiskFault)) h = other_prefix limit 8 catalogue history least (λ e. absurd (omega (arith, e))) (λ e. absurd (omega (arith, e))) (λ e. absurd (omega (arith, e)))
prefix_of limit catalogue history least (run.Opening (recover.Load load.NoMemory)) h = other_prefix limit 9 catalogue history least (λ e. absurd (omega (arith, e))) (λ e. absurd (omega (arith, e))) (λ e. absurd (omega (arith, e)))
prefix_of limit catalogue history least (run.Opening (recover.AbortInLog note)) h = absurd h
prefix_of limit catalogue history least (run.Opening (recover.RowsOver name rows most)) h = record { undamaged = λ e. absurd (omega (arith, e)); executes = λ e. absurd (omega (arith, e)); over_limit = λ e. (name, rows, h) }
prefix_of limit catalogue history least run.InputFault h = other_prefix limit 6 catalogue history least (λ e. absurd (omega (arith, e))) (λ e. absurd (omega (arith, e))) (λ e. absurd (omega (arith, e)))
prefix_of limit catalogue history least run.OutputFault h = other_prefix limit 7 catalogue history least (λ e. absurd (omega (arith, e))) (λ e. absurd (omega (arith, e))) (λ e. absurd (omega (arith, e)))
prefix_of limit catalogue history least run.DiskFault h = other_prefix limit 8 catalogue history least (λ e. absurd (omega (arith, e))) (λ e. absurd (omega (arith, e))) (λ e. absurd (omega (arith, e)))
prefix_of limit catalogue history least run.NoMemory h = other_prefix limit 9 catalogue history least (λ e. absurd (omega (arith, e))) (λ e. absurd (omega (arith, e))) (λ e. absurd (omega (arith, e)))
prefix_of limit catalogue history least (run.LogFull need) h = other_prefix limit 10 catalogue history least (λ e. absurd (omega (arith, e))) (λ e. absurd (omega (arith, e))) (λ e. absurd (omega (arith, e)))
prefix_of limit catalogue history least run.TooLong h = other_prefix limit 11 catalogue history least (λ e. absurd (omega (arith, e))) (λ e. absurd (omega (arith, e))) (λ e. absurd (omega (arith, e)))
prefix_of limit catalogue history least (run.TooLarge bytes) h = other_prefix limit 12 catalogue history least (λ e. absurd (omega (arith, e))) (λ e. absurd (omega (arith, e))) (λ e. absurd (omega (arith, e)))

run_status : (why : RunStop) → IsOneOf (status_of (stop_of_run why)) (0 ∷ 3 ∷ 4 ∷ 5 ∷ 6 ∷ 7 ∷ 8 ∷ 9 ∷ 10 ∷ 11 ∷ 12 ∷ [])
run_status (run.Opening (recover.Load load.NoStore)) = refl
run_status (run.Opening (recover.Load (load.Damaged damage))) = refl
run_status (run.Opening (recover.Load load.DiskFault)) = refl
run_status (run.Opening (recover.Load load.NoMemory)) = refl
run_status (run.Opening (recover.AbortInLog note)) = refl
run_status (run.Opening (recover.RowsOver name rows most)) = refl
run_status run.InputFault = refl
run_status run.OutputFault = refl
run_status run.DiskFault = refl
run_status run.NoMemory = refl
run_status (run.LogFull need) = refl
run_status run.TooLong = refl
run_status (run.TooLarge bytes) = refl

-- nothing was given out where the store wasn't opened
no_text : (catalogue : CatalogueState) (given : List Reply) (out : List ℕ) → given ≡ [] → IsTextPrefix out (texts catalogue given) → out ≡ []
no_text catalogue given out none prefix = prefix.is ∙ ap (λ (g : List Reply). take prefix.count (texts catalogue g)) none ∙ take-nil prefix.count

-- the statuses of a store that is refused
refuses_of : (why : RunStop) → IsOneOf (status_of (stop_of_run why)) (3 ∷ 4 ∷ 5 ∷ []) → RefusesStore why
refuses_of (run.Opening (recover.Load load.NoStore)) early = tt
refuses_of (run.Opening (recover.Load (load.Damaged damage))) early = tt
refuses_of (run.Opening (recover.Load load.DiskFault)) early = let no : ◌≡◌ {A = Bool} false true = early in absurd cc
refuses_of (run.Opening (recover.Load load.NoMemory)) early = let no : ◌≡◌ {A = Bool} false true = early in absurd cc
refuses_of (run.Opening (recover.AbortInLog note)) early = tt
refuses_of (run.Opening (recover.RowsOver name rows most)) early = tt
refuses_of run.InputFault early = let no : ◌≡◌ {A = Bool} false true = early in absurd cc
refuses_of run.OutputFault early = let no : ◌≡◌ {A = Bool} false true = early in absurd cc
refuses_of run.DiskFault early = let no : ◌≡◌ {A = Bool} false true = early in absurd cc
refuses_of run.NoMemory early = let no : ◌≡◌ {A = Bool} false true = early in absurd cc
refuses_of (run.LogFull need) early = let no : ◌≡◌ {A = Bool} false true = early in absurd cc
refuses_of run.TooLong early = let no : ◌≡◌ {A = Bool} false true = early in absurd cc
refuses_of (run.TooLarge bytes) early = let no : ◌≡◌ {A = Bool} false true = early in absurd cc

-- no other stop has the status of a failed device, and its line takes no memory
disk_status : (why : RunStop) → DeviceFailed why → status_of (stop_of_run why) ≡ 8
disk_status (run.Opening error) e = ap (λ (x : RecoverError). status_of (stop_of_recover x)) e
disk_status run.DiskFault e = refl
disk_status run.InputFault e = absurd e
disk_status run.OutputFault e = absurd e
disk_status run.NoMemory e = absurd e
disk_status (run.LogFull need) e = absurd e
disk_status run.TooLong e = absurd e
disk_status (run.TooLarge bytes) e = absurd e

no_memory_disk : (why : RunStop) → IsTrue (takes_memory (stop_of_run why)) → DeviceFailed why → ⊥
no_memory_disk (run.Opening error) memory e = let no : ◌≡◌ {A = Bool} false true = subst (λ (x : RecoverError). IsTrue (takes_memory (stop_of_recover x))) e memory in cc
no_memory_disk run.DiskFault memory e = let no : ◌≡◌ {A = Bool} false true = memory in cc
no_memory_disk run.InputFault memory e = e
no_memory_disk run.OutputFault memory e = e
no_memory_disk run.NoMemory memory e = e
no_memory_disk (run.LogFull need) memory e = e
no_memory_disk run.TooLong memory e = e
no_memory_disk (run.TooLarge bytes) memory e = e

none_given : (rules : Rules) (spot : LogSpot) (start : SessionState) (requests : List Request) (given : List Reply) (why : RunStop)
    → IsOneOf (status_of (stop_of_run why)) (3 ∷ 4 ∷ 5 ∷ []) → IsStopped rules spot start requests given why → given ≡ []
none_given rules spot start requests given why early (inl none) = none.2
none_given rules spot start requests given (run.Opening error) early (inr at) = absurd at
none_given rules spot start requests given run.InputFault early (inr at) = let no : ◌≡◌ {A = Bool} false true = early in absurd cc
none_given rules spot start requests given run.OutputFault early (inr at) = let no : ◌≡◌ {A = Bool} false true = early in absurd cc
none_given rules spot start requests given run.DiskFault early (inr at) = let no : ◌≡◌ {A = Bool} false true = early in absurd cc
none_given rules spot start requests given run.NoMemory early (inr at) = let no : ◌≡◌ {A = Bool} false true = early in absurd cc
none_given rules spot start requests given (run.LogFull need) early (inr at) = let no : ◌≡◌ {A = Bool} false true = early in absurd cc
none_given rules spot start requests given run.TooLong early (inr at) = let no : ◌≡◌ {A = Bool} false true = early in absurd cc
none_given rules spot start requests given (run.TooLarge bytes) early (inr at) = let no : ◌≡◌ {A = Bool} false true = early in absurd cc

module _ (group_size limit : ℕ) (source sink errors : Observed) (before after : Devices (Option DiskHistory)) (was is : Devices ℕ) where
  abbrev devices : ObservedDevices
  devices = record { before = before; after = after; faults_before = was; faults_after = is }

  abbrev Ran : Result (Unit {0}) RunStop → Type 0
  Ran end = IsRun group_size limit source.before source.after sink.before sink.after devices.before devices.after (AnyFaulted sink) end

  left_of : (end : Result (Unit {0}) RunStop) (ran : Ran end) (text : List ℕ) (catalogue : CatalogueState) (history : List Txn) (least : ℕ)
      → WhileAllKnown (FoundStanding text catalogue history least) (LeavesHistory text catalogue history least ran.rules ran.start ran.requests ran.out) before after
  left_of end ran = leaves-history group_size limit source.before source.after sink.before sink.after before after (AnyFaulted sink) end ran

  abbrev Cause : RunStop → Type 0
  Cause = RunCause limit source sink devices

  abbrev LineReported : RunStop → Type 0
  LineReported why = IsReported errors (line_of (stop_of_run why))

  refused : (why : RunStop) → (why ≡ run.Opening (recover.Load load.NoStore)) ⊎ RunDamage why → Cause why → LineReported why → IsRefusedStore devices.before errors
  refused why (inl e) h line = inl ((subst Cause e h).0, subst LineReported e line)
  refused why (inr d) h line = inr (d.damage, (subst Cause d.is h).0, subst LineReported d.is line)

  end_is : (why other : RunStop) → why ≡ other → ◌≡◌ {A = Result (Unit {0}) RunStop} (Err why) (Err other)
  end_is why other e = cc

  disk_cause : (why : RunStop) → DeviceFailed why → Cause why → OneFaulted was is
  disk_cause (run.Opening error) e h = h.1 e
  disk_cause run.DiskFault e h = h
  disk_cause run.InputFault e h = absurd e
  disk_cause run.OutputFault e h = absurd e
  disk_cause run.NoMemory e h = absurd e
  disk_cause (run.LogFull need) e h = absurd e
  disk_cause run.TooLong e h = absurd e
  disk_cause (run.TooLarge bytes) e h = absurd e

  -- no device failed, unless that is why it stopped
  abbrev Quiet : RunStop → Type 0
  Quiet why = (DeviceFailed why → ⊥) → is ≡ was

  -- what the store's refusal leaves
  abbrev Left : RunStop → Type 0
  Left why = RefusesStore why → LeavesStore source sink devices

  abbrev Short : List ℕ → Type 0
  Short text = length text ≤ MAX_INPUT

  -- of these groups each fits the log
  each_fits : (groups before rest : List Group) (group : Group) → groups ≡ before ++ group ∷ rest → AllByRecursion GroupFits groups → GroupFits group
  each_fits groups before rest group split fit = go before (subst (λ (g : List Group). AllByRecursion GroupFits g) split fit)
    where
      go : (before : List Group) → AllByRecursion GroupFits (before ++ group ∷ rest) → GroupFits group
      go [] fit = fit.0
      go (one ∷ more) fit = go more fit.1

  -- an input that isn't too long doesn't stop the run
  not_long : (left' : Option (List ℕ)) (text taken : List ℕ) → length text ≤ MAX_INPUT → length taken ≡ MAX_INPUT + 1 → Some text ≡ prepend_known taken left' → ⊥
  not_long None text taken short more gave = absurd cc
  not_long (Some rest) text taken short more gave = let is : text ≡ taken ++ rest = cc in omega (arith, short, more, ap (λ (l : List ℕ). length l) is, length-append taken rest)

  module _ (text : List ℕ) (catalogue : CatalogueState) (history : List Txn) (least : ℕ) (known : Devices DiskHistory) where
    -- nothing stops the run but running out of memory
    runs_on : (why : RunStop) → RunCause limit source sink (record devices { before = each Some known }) why → IsPrefixStop limit catalogue history least why → (ran : Ran (Err why)) → StoredInLimit limit (reads_of known) → IsFaultless devices sink → (AnyFaulted source → ⊥)
        → HaveRoom ran.rules ran.spot ran.start ran.requests → IsSomeAnd source.before Short → IsOneOf (status_of (stop_of_run why)) (0 ∷ 9 ∷ [])
    runs_on (run.Opening (recover.Load load.NoStore)) h f ran stays none reads room short = absurd f
    runs_on (run.Opening (recover.Load (load.Damaged damage))) h f ran stays none reads room short = absurd f
    runs_on (run.Opening (recover.Load load.DiskFault)) h f ran stays none reads room short = absurd (none.0 (h.1 refl))
    runs_on (run.Opening (recover.Load load.NoMemory)) h f ran stays none reads room short = refl
    runs_on (run.Opening (recover.AbortInLog note)) h f ran stays none reads room short = absurd f
    runs_on (run.Opening (recover.RowsOver name rows most)) h f ran stays none reads room short = absurd (stays name rows h.0.1)
    runs_on run.InputFault h f ran stays none reads room short = absurd (reads h)
    runs_on run.OutputFault h f ran stays none reads room short = absurd (none.1 h)
    runs_on run.DiskFault h f ran stays none reads room short = absurd (none.0 h)
    runs_on run.NoMemory h f ran stays none reads room short = refl
    runs_on (run.LogFull need) h f ran stays none reads room short = absurd (no_room ran.stopped)
      where
        no_room : IsStopped ran.rules ran.spot ran.start ran.requests ran.given (run.LogFull need) → ⊥
        no_room (inl opening) = let no : run.LogFull need ≡ run.Opening opening.0.0 = opening.0.1 in absurd cc
        no_room (inr at) = let fits = each_fits (closed_groups ran.rules ran.spot ran.start ran.requests) at.before at.rest at.group at.split room.log at.here.some in omega (arith, fits, at.here.over)
    runs_on run.TooLong h f ran stays none reads room short =
        let given = some_is Short source.before short in
        let long = ran.long refl in
        absurd (not_long source.after given.0 long.bytes given.2 long.more (sym given.1 ∙ long.gave))
    runs_on (run.TooLarge bytes) h f ran stays none reads room short = absurd (no_room ran.stopped)
      where
        no_room : IsStopped ran.rules ran.spot ran.start ran.requests ran.given (run.TooLarge bytes) → ⊥
        no_room (inl opening) = let no : run.TooLarge bytes ≡ run.Opening opening.0.0 = opening.0.1 in absurd cc
        no_room (inr at) = room.slots bytes ran.given at

  runs_all : (why : RunStop) → Cause why → (ran : Ran (Err why)) → (text : List ℕ) (catalogue : CatalogueState) (history : List Txn) (least : ℕ)
      → IfImagesKnown (λ images. StandsFor text catalogue history least images → StoredInLimit limit images → IsFaultless devices sink → (AnyFaulted source → ⊥)
      → HaveRoom ran.rules ran.spot ran.start ran.requests → IsSomeAnd source.before Short → IsOneOf (status_of (stop_of_run why)) (0 ∷ 9 ∷ [])) before
  runs_all why h ran text catalogue history least = where-known Of (λ images. StandsFor text catalogue history least images → StoredInLimit limit images → IsFaultless devices sink → (AnyFaulted source → ⊥)
      → HaveRoom ran.rules ran.spot ran.start ran.requests → IsSomeAnd source.before Short → IsOneOf (status_of (stop_of_run why)) (0 ∷ 9 ∷ []))
      (λ known of stands. runs_on text catalogue history least known why of.0 (of.1 stands) ran) before (h, run-prefix limit source sink after was is text catalogue history least before why h)
    where
      Of : Devices (Option DiskHistory) → Type 0
      Of d = RunCause limit source sink (record devices { before = d }) why × IfImagesKnown (λ images. StandsFor text catalogue history least images → IsPrefixStop limit catalogue history least why) d

  -- the status is one of those
  ends_well : (n : ℕ) (rules : Rules) (spot : LogSpot) (start : SessionState) (requests : List Request) → IsOneOf n (0 ∷ 9 ∷ []) → (text : List ℕ) (catalogue : CatalogueState) (history : List Txn) (least : ℕ)
      → IfImagesKnown (λ images. StandsFor text catalogue history least images → StoredInLimit limit images → IsFaultless devices sink → (AnyFaulted source → ⊥)
      → HaveRoom rules spot start requests → IsSomeAnd source.before Short → IsOneOf n (0 ∷ 9 ∷ [])) before
  ends_well n rules spot start requests one text catalogue history least =
      images-any (λ images. StandsFor text catalogue history least images → StoredInLimit limit images → IsFaultless devices sink → (AnyFaulted source → ⊥) → HaveRoom rules spot start requests → IsSomeAnd source.before Short → IsOneOf n (0 ∷ 9 ∷ []))
      (λ images stands stays none reads room short. one) before

  itself : (why : RunStop) → Ran (Err why) → Cause why → LineReported why → Left why → Quiet why → RunEnds group_size limit (status_of (stop_of_run why)) source sink errors devices
  itself why ran h line left quiet = record {
    statuses = run_status why;
    end = Err why;
    is = ran;
    leaves = left_of (Err why) ran;
    stands = λ text catalogue history least.
        images-then (λ images. StandsFor text catalogue history least images → IsPrefixStop limit catalogue history least why) (λ images. StandsFor text catalogue history least images → RunsOnPrefix limit (status_of (stop_of_run why)) catalogue history least)
        (λ images f stands. prefix_of limit catalogue history least why (f stands)) before (run-prefix limit source sink after was is text catalogue history least before why h);
    done = λ zero. absurd (run_never_done why zero);
    refused = λ three. (refuses_of why (subst (λ (m : ℕ). IsOneOf m (3 ∷ 4 ∷ 5 ∷ [])) (sym three) refl), refused why (run_refused_of why three) h line);
    aborted = λ four. let t = run_aborted_of why four in (t.note, end_is why (run.Opening (recover.AbortInLog t.note)) t.is, (subst Cause t.is h).0, subst LineReported t.is line);
    over_limit = λ five.
        let t = run_over_of why five in
        let cause = (subst Cause t.is h).0 in
        (t.name, t.rows, subst (λ (n : ℕ). IsStop why (run.Opening (recover.RowsOver t.name t.rows n))) cause.0 (end_is why (run.Opening (recover.RowsOver t.name t.rows t.most)) t.is), cause.1, subst (λ (n : ℕ). IsReported errors (line_of (stop.RowsOver t.name t.rows n))) cause.0 (subst LineReported t.is line));
    unserved = λ early. no_text ran.rules.catalogue ran.given ran.out (none_given ran.rules ran.spot ran.start ran.requests ran.given why early ran.stopped) ran.written;
    input_fault = λ six. (end_is why run.InputFault (run_input_of why six), subst Cause (run_input_of why six) h);
    output_fault = λ seven. (end_is why run.OutputFault (run_output_of why seven), subst Cause (run_output_of why seven) h);
    disk_fault = λ eight. (run_disk_of why eight, disk_cause why (run_disk_of why eight) h);
    log_full = λ ten. let t = run_full_of why ten in (t.need, end_is why (run.LogFull t.need) t.is, subst LineReported t.is line);
    too_long = λ eleven. end_is why run.TooLong (run_long_of why eleven);
    too_large = λ twelve. let t = run_large_of why twelve in (t.bytes, end_is why (run.TooLarge t.bytes) t.is, subst LineReported t.is line);
    untouched = λ early. left (refuses_of why early);
    quiet = λ eight. quiet (λ e. eight (disk_status why e));
    complete = runs_all why h ran;
  }

  -- running out of memory has no cause
  pub run-memory : (end : Result (Unit {0}) RunStop) (n : ℕ) → n ≡ 9 → Ran end → is ≡ was → RunEnds group_size limit n source sink errors devices
  run-memory end n nine ran quiet = record {
    statuses = subst (λ (m : ℕ). IsOneOf m (0 ∷ 3 ∷ 4 ∷ 5 ∷ 6 ∷ 7 ∷ 8 ∷ 9 ∷ 10 ∷ 11 ∷ 12 ∷ [])) (sym nine) refl;
    end = end;
    is = ran;
    leaves = left_of end ran;
    stands = λ text catalogue history least.
        images-any (λ images. StandsFor text catalogue history least images → RunsOnPrefix limit n catalogue history least)
        (λ images stands. other_prefix limit n catalogue history least (λ e. absurd (omega (arith, nine, e))) (λ e. absurd (omega (arith, nine, e))) (λ e. absurd (omega (arith, nine, e)))) before;
    done = λ e. absurd (omega (arith, nine, e));
    refused = λ e. absurd (omega (arith, nine, e));
    aborted = λ e. absurd (omega (arith, nine, e));
    over_limit = λ e. absurd (omega (arith, nine, e));
    unserved = λ early. let no : ◌≡◌ {A = Bool} false true = subst (λ (m : ℕ). IsOneOf m (3 ∷ 4 ∷ 5 ∷ [])) nine early in absurd cc;
    input_fault = λ e. absurd (omega (arith, nine, e));
    output_fault = λ e. absurd (omega (arith, nine, e));
    disk_fault = λ e. absurd (omega (arith, nine, e));
    log_full = λ e. absurd (omega (arith, nine, e));
    too_long = λ e. absurd (omega (arith, nine, e));
    too_large = λ e. absurd (omega (arith, nine, e));
    untouched = λ early. let no : ◌≡◌ {A = Bool} false true = subst (λ (m : ℕ). IsOneOf m (3 ∷ 4 ∷ 5 ∷ [])) nine early in absurd cc;
    quiet = λ eight. quiet;
    complete = ends_well n ran.rules ran.spot ran.start ran.requests (subst (λ (m : ℕ). IsOneOf m (0 ∷ 9 ∷ [])) (sym nine) refl);
  }

  pub run-ends : (why : RunStop) (reported : Stop) (n : ℕ) → n ≡ status_of reported → Reported (stop_of_run why) reported → Ran (Err why) → Cause why → IsReported errors (line_of reported) → Left why → Quiet why → RunEnds group_size limit n source sink errors devices
  run-ends why reported n same (inl e) ran h line left quiet =
      subst (λ (m : ℕ). RunEnds group_size limit m source sink errors devices) (sym (same ∙ ap status_of e)) (itself why ran h (subst (λ (s : Stop). IsReported errors (line_of s)) e line) left quiet)
  run-ends why reported n same (inr e) ran h line left quiet = run-memory (Err why) n (same ∙ ap status_of e.0) ran (quiet (no_memory_disk why e.1))

  pub run-done : Ran (Ok tt) → is ≡ was → RunEnds group_size limit 0 source sink errors devices
  run-done ran quiet = record {
    statuses = refl;
    end = Ok tt;
    is = ran;
    leaves = left_of (Ok tt) ran;
    stands = λ text catalogue history least.
        images-any (λ images. StandsFor text catalogue history least images → RunsOnPrefix limit 0 catalogue history least)
        (λ images stands. other_prefix limit 0 catalogue history least (λ e. absurd (omega (arith, e))) (λ e. absurd (omega (arith, e))) (λ e. absurd (omega (arith, e)))) before;
    done = λ e. refl;
    refused = λ e. absurd (omega (arith, e));
    aborted = λ e. absurd (omega (arith, e));
    over_limit = λ e. absurd (omega (arith, e));
    unserved = λ early. let no : ◌≡◌ {A = Bool} false true = early in absurd cc;
    input_fault = λ e. absurd (omega (arith, e));
    output_fault = λ e. absurd (omega (arith, e));
    disk_fault = λ e. absurd (omega (arith, e));
    log_full = λ e. absurd (omega (arith, e));
    too_long = λ e. absurd (omega (arith, e));
    too_large = λ e. absurd (omega (arith, e));
    untouched = λ early. let no : ◌≡◌ {A = Bool} false true = early in absurd cc;
    quiet = λ eight. quiet;
    complete = ends_well 0 ran.rules ran.spot ran.start ran.requests refl;
  }

-- ---- running out of memory for the arguments: no stream and no device is called

-- a stream that is not called
abbrev pub still : Option (List ℕ) → ℕ → Observed
still bytes faults = record { before = bytes; after = bytes; faults_before = faults; faults_after = faults }

pub run-idle : (group_size limit n : ℕ) (left held : Option (List ℕ)) (reads writes : ℕ) (known : Devices (Option DiskHistory)) (faults : Devices ℕ) (errors : Observed) → n ≡ 9 → RunEnds group_size limit n (still left reads) (still held writes) errors (uncalled known faults)
run-idle group_size limit n left held reads writes known faults errors nine =
    run-memory group_size limit (still left reads) (still held writes) errors known known faults faults (Err no_memory) n nine (idle-run group_size limit left held known (AnyFaulted (still held writes))) refl
