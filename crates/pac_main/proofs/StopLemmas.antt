-- A stop has the cause of what came before it, and the command ends by the stop that is reported.
use Rattle.std.proofs.Common.{◌≡◌, ◌∙◌, ◌⊎◌, ◌<◌, ℕ, Bool, List, [], ◌∷◌, length, Option, Some, None, Result, Ok, Err, inl, inr, refl, sym, ap, subst, arith, true, false}
use Rattle.std.specs.Prelude.{IsSomeAnd, IsTrue}
use Rattle.pac_value.specs.State.{Tables}
use Rattle.pac_ops.specs.declared.note.Note.{Note}
use Rattle.pac_outside.specs.Devices.{OnceKnown, all_known}
use Rattle.pac_outside.specs.Disk.{DiskHistory}
use Rattle.pac_outside.specs.declared.devices.Devices.{Devices}
use Rattle.pac_types.specs.Execution.{first_over}
use Rattle.pac_store.specs.Made.{AreEmpty, IsFirstInUse, IsInUse}
use Rattle.pac_store.specs.declared.device.DeviceName.{DeviceName}
use Rattle.pac_store.specs.declared.device.DeviceName.TheVariants.{Log, LogB, SlotA, SlotB}
use Rattle.pac_restore.specs.Limits.{IsFirstOver}
use Rattle.pac_restore.specs.declared.limit.TooManyRows.{TooManyRows}
use Rattle.pac_run.specs.declared.limits.TheConstants.{MAX_INPUT}
use Rattle.pac_script.specs.declared.script.Script.{Script}
use Rattle.pac_flat.specs.declared.acceptance.AcceptFault.{AcceptFault}
use Rattle.pac_flat.proofs.OneAcceptance.{accepted_or_not}
use Rattle.pac_script.specs.declared.script_fault.ScriptFault.{ScriptFault}
use Rattle.pac_script.specs.declared.script_fault.ScriptFault.TheVariants.{Unaccepted, Line}
use Rattle.pac_main.specs.Causes.{GivesNoScript, GivesNoExplanation, GivesNoText, ScriptStops, ReplayStops, IsOfCatalogue, ExplainStops, InitStops}
use Rattle.pac_main.specs.Explained.{ExplainEnds, IsTheCause, IsUnexplainedAs}
use Rattle.pac_main.specs.Init.{AreUntouched, InitEnds, IsAcceptedInput, IsNoStoreFor, IsNoStoreText}
use Rattle.pac_main.specs.Inputs.{IsAcceptedText}
use Rattle.pac_main.specs.Replay.{EndsInLimit, IsAbortOf, IsLongScript, IsOverOf, IsReadAs, IsRefusedAs, IsScriptOf, ScriptEnds, first_over_in, outcome}
use Rattle.pac_main.specs.Stop.{line_of, status_of, stop_of_excess, stop_of_input, takes_memory, unaccepted_line}
use Rattle.pac_main.specs.Streams.{AnyFaulted, IsFaultless, IsOneOf, IsReported, Observed, ObservedDevices}
use Rattle.pac_main.specs.declared.input.InputError.{InputError}
use Rattle.pac_main.specs.declared.input.InputError.TheVariants as input
use Rattle.pac_main.specs.declared.stop.Stop.{Stop}
use Rattle.pac_main.specs.declared.stop.Stop.TheVariants.{Usage, Script as ScriptStop, NotEmpty, NoStore, Damaged, Aborted, RowsOver, InputFault, OutputFault, DiskFault, NoMemory, LogFull, TooLong, TooLarge, Image}
use Rattle.pac_main.proofs.InputLemmas.{some_is}
use Rattle.pac_main.proofs.StatusLemmas.{ADeviceRefusal, AFullDevice, aborted_of, device_of, disk_of, input_of, long_of, never_done, output_of, over_of, refused_of}

-- a stop is reported itself, or there was no memory for its line
abbrev pub Reported : Stop → Stop → Type 0
Reported stop reported = (reported ≡ stop) ⊎ ((reported ≡ NoMemory) × IsTrue (takes_memory stop))

-- what is reported has a cause, where running out of memory needs none
pub reported_cause : (P : Stop → Type 0) (stop reported : Stop) → Reported stop reported → P NoMemory → P stop → P reported
reported_cause P stop reported (inl e) free h = subst P (sym e) h
reported_cause P stop reported (inr e) free h = subst P (sym e.0) free

-- ---- `replay`

-- `IsWritten` says of which text something holds: the dump, or the log
module _ (limit : ℕ) (IsWritten : (List ℕ → Type 0) → Type 0) (source sink : Observed) where
  pub replay-input : (error : InputError) → GivesNoScript source error → ReplayStops limit IsWritten source sink (stop_of_input error)
  replay-input input.Failed h = h
  replay-input input.TooLong h = h
  replay-input (input.Script fault) h = h
  replay-input input.NoMemory h = tt

  pub replay-script : (script : Script) (stop : Stop) → IsScriptOf script source.before → ScriptStops limit script stop → ReplayStops limit IsWritten source sink stop
  replay-script script (Aborted note) is h = (script, is, h)
  replay-script script (RowsOver name rows most) is h = (record { script = script; tables = h.0.0; is = is; ends = h.0.1; over = h.0.2 }, h.1)
  replay-script script NoMemory is h = tt
  replay-script script Usage is h = absurd h
  replay-script script (ScriptStop fault) is h = absurd h
  replay-script script (NotEmpty device length) is h = absurd h
  replay-script script NoStore is h = absurd h
  replay-script script (Damaged damage) is h = absurd h
  replay-script script DiskFault is h = absurd h
  replay-script script InputFault is h = absurd h
  replay-script script OutputFault is h = absurd h
  replay-script script TooLong is h = absurd h
  replay-script script (LogFull need) is h = absurd h
  replay-script script (TooLarge bytes) is h = absurd h
  replay-script script (Image fault) is h = absurd h

  replay_status : (stop : Stop) → ReplayStops limit IsWritten source sink stop → IsOneOf (status_of stop) (0 ∷ 2 ∷ 4 ∷ 5 ∷ 6 ∷ 7 ∷ 9 ∷ 11 ∷ [])
  replay_status Usage h = absurd h
  replay_status (ScriptStop fault) h = refl
  replay_status (NotEmpty device length) h = absurd h
  replay_status NoStore h = absurd h
  replay_status (Damaged damage) h = absurd h
  replay_status DiskFault h = absurd h
  replay_status (Aborted note) h = refl
  replay_status (RowsOver name rows most) h = refl
  replay_status InputFault h = refl
  replay_status OutputFault h = refl
  replay_status NoMemory h = refl
  replay_status TooLong h = refl
  replay_status (LogFull need) h = absurd h
  replay_status (TooLarge bytes) h = absurd h
  replay_status (Image fault) h = absurd h

  -- a script that is replayed to its end, within the limit
  module _ (text : List ℕ) (holds : EndsInLimit limit text) (is : source.before ≡ Some text) where
    same_script : (script : Script) → IsScriptOf script source.before → script ≡ holds.script
    same_script script reads =
        let read : IsReadAs text (Ok script) = subst (λ (o : Option (List ℕ)). IsScriptOf script o) is reads in
        one script holds.script (holds.is.only (Ok script) read.says)
      where
        one : (script other : Script) → ◌≡◌ {A = Result Script ScriptFault} (Ok script) (Ok other) → script ≡ other
        one script other e = cc

    ends_so : (script : Script) → IsScriptOf script source.before → outcome script ≡ Ok holds.tables
    ends_so script reads = ap outcome (same_script script reads) ∙ holds.ends

    no_fault : (fault : ScriptFault) → IsRefusedAs source.before fault → ⊥
    no_fault fault refused =
        let read : IsReadAs text (Err fault) = subst (λ (o : Option (List ℕ)). IsRefusedAs o fault) is refused in
        let no : ◌≡◌ {A = Result Script ScriptFault} (Err fault) (Ok holds.script) = holds.is.only (Err fault) read.says in
        absurd cc

    no_abort : (note : Note) → IsAbortOf source.before note → ⊥
    no_abort note aborts = let no : ◌≡◌ {A = Result Tables Note} (Err note) (Ok holds.tables) = sym aborts.2 ∙ ends_so aborts.0 aborts.1 in absurd cc

    none_over : (name : List ℕ) (rows : ℕ) → IsOverOf limit source.before name rows → ⊥
    none_over name rows over =
        let tables : over.tables ≡ holds.tables = same_tables over.tables holds.tables (sym over.ends ∙ ends_so over.script over.is) in
        let none : first_over limit (length over.script.catalogue.tables) over.tables ≡ None =
        ap (λ (script : Script). first_over_in limit script over.tables) (same_script over.script over.is) ∙ ap (λ (t : Tables). first_over_in limit holds.script t) tables ∙ holds.within in
        let some = over.over.1 in
        absurd cc
      where
        same_tables : (t u : Tables) → ◌≡◌ {A = Result Tables Note} (Ok t) (Ok u) → t ≡ u
        same_tables t u e = cc

    not_long : IsLongScript source.before → ⊥
    not_long long = let longer : MAX_INPUT < length text = subst (λ (o : Option (List ℕ)). IsLongScript o) is long in omega (arith, longer, holds.is.short)

    replays : (stop : Stop) → ReplayStops limit IsWritten source sink stop → (AnyFaulted source → ⊥) → (AnyFaulted sink → ⊥) → IsOneOf (status_of stop) (0 ∷ 9 ∷ [])
    replays (ScriptStop fault) h reads writes = absurd (no_fault fault h)
    replays (Aborted note) h reads writes = absurd (no_abort note h)
    replays (RowsOver name rows most) h reads writes = absurd (none_over name rows h.0)
    replays InputFault h reads writes = absurd (reads h)
    replays OutputFault h reads writes = absurd (writes h.0)
    replays TooLong h reads writes = absurd (not_long h)
    replays NoMemory h reads writes = refl
    replays Usage h reads writes = absurd h
    replays (NotEmpty device length) h reads writes = absurd h
    replays NoStore h reads writes = absurd h
    replays (Damaged damage) h reads writes = absurd h
    replays DiskFault h reads writes = absurd h
    replays (LogFull need) h reads writes = absurd h
    replays (TooLarge bytes) h reads writes = absurd h
    replays (Image fault) h reads writes = absurd h

  replay_complete : (stop : Stop) → ReplayStops limit IsWritten source sink stop → IsSomeAnd source.before (EndsInLimit limit) → (AnyFaulted source → ⊥) → (AnyFaulted sink → ⊥) → IsOneOf (status_of stop) (0 ∷ 9 ∷ [])
  replay_complete stop h given = let known = some_is (EndsInLimit limit) source.before given in replays known.0 known.2 known.1 stop h

  ends_reported : (errors : Observed) (stop : Stop) → ReplayStops limit IsWritten source sink stop → IsReported errors (line_of stop) → ScriptEnds limit IsWritten (status_of stop) source sink errors
  ends_reported errors stop cause line = record {
    statuses = replay_status stop cause;
    done = λ zero. absurd (never_done stop zero);
    refused = λ two. let r = refused_of stop (ReplayStops limit IsWritten source sink) (λ fault h. h) cause two in (r.fault, subst (ReplayStops limit IsWritten source sink) r.is cause, subst (λ (s : Stop). IsReported errors (line_of s)) r.is line);
    aborted = λ four. let a = aborted_of stop four in (a.note, subst (ReplayStops limit IsWritten source sink) a.is cause, subst (λ (s : Stop). IsReported errors (line_of s)) a.is line);
    over_limit = λ five.
        let o = over_of stop five in
        let why = subst (ReplayStops limit IsWritten source sink) o.is cause in
        (o.name, o.rows, why.0, subst (λ (n : ℕ). IsReported errors (line_of (RowsOver o.name o.rows n))) why.1 (subst (λ (s : Stop). IsReported errors (line_of s)) o.is line));
    input_fault = λ six. subst (ReplayStops limit IsWritten source sink) (input_of stop six) cause;
    output_fault = λ seven. subst (ReplayStops limit IsWritten source sink) (output_of stop seven) cause;
    too_long = λ eleven. subst (ReplayStops limit IsWritten source sink) (long_of stop eleven) cause;
    complete = replay_complete stop cause;
  }

  pub replay-ends : (errors : Observed) (stop reported : Stop) (status : ℕ) → status ≡ status_of reported → Reported stop reported → ReplayStops limit IsWritten source sink stop → IsReported errors (line_of reported) → ScriptEnds limit IsWritten status source sink errors
  replay-ends errors stop reported status is which cause line =
      subst (λ (n : ℕ). ScriptEnds limit IsWritten n source sink errors) (sym is) (ends_reported errors reported (reported_cause (ReplayStops limit IsWritten source sink) stop reported which tt cause) line)

-- a script whose tables are over the limit
pub over-stops : (limit : ℕ) (script : Script) (tables : Tables) (excess : TooManyRows) → outcome script ≡ Ok tables → IsFirstOver limit script.catalogue.tables tables excess.table excess.rows → excess.limit ≡ limit → ScriptStops limit script (stop_of_excess excess)
over-stops limit script tables excess ends over is = ((tables, ends, over), is)

-- what is reported of a catalogue's text that isn't accepted
pub unaccepted_as : (P : AcceptFault → Type 0) (errors : Observed) (fault : ScriptFault) → IsOfCatalogue P fault → IsReported errors (line_of (ScriptStop fault)) → (f : AcceptFault) × P f × IsReported errors (unaccepted_line f)
unaccepted_as P errors (Unaccepted f) h line = (f, h, line)
unaccepted_as P errors (Line number f) h line = absurd h

-- ---- `explain`

module _ (with_text : Bool) (source sink : Observed) where
  pub explain-input : (error : InputError) → GivesNoExplanation source error → ExplainStops with_text source sink (stop_of_input error)
  explain-input input.Failed h = h
  explain-input input.TooLong h = absurd h
  explain-input (input.Script fault) h = h
  explain-input input.NoMemory h = tt

  explain_status : (stop : Stop) → ExplainStops with_text source sink stop → IsOneOf (status_of stop) (0 ∷ 2 ∷ 6 ∷ 7 ∷ 9 ∷ [])
  explain_status (ScriptStop fault) h = refl
  explain_status (NotEmpty device length) h = absurd h
  explain_status NoStore h = absurd h
  explain_status (Damaged damage) h = absurd h
  explain_status DiskFault h = absurd h
  explain_status InputFault h = refl
  explain_status OutputFault h = refl
  explain_status NoMemory h = refl
  explain_status Usage h = absurd h
  explain_status (Aborted note) h = absurd h
  explain_status (RowsOver name rows most) h = absurd h
  explain_status TooLong h = absurd h
  explain_status (LogFull need) h = absurd h
  explain_status (TooLarge bytes) h = absurd h
  explain_status (Image fault) h = absurd h

  -- an accepted text is explained
  module _ (text : List ℕ) (accepted : IsAcceptedText text) (is : source.before ≡ Some text) where
    explains : (stop : Stop) → ExplainStops with_text source sink stop → (AnyFaulted source → ⊥) → (AnyFaulted sink → ⊥) → IsOneOf (status_of stop) (0 ∷ 9 ∷ [])
    explains (ScriptStop (Unaccepted fault)) h reads writes =
        let cause : IsTheCause text fault = subst (λ (o : Option (List ℕ)). IsUnexplainedAs o fault) is h in
        absurd (accepted_or_not text accepted.0 fault accepted.1 cause.is)
    explains (ScriptStop (Line number fault)) h reads writes = absurd h
    explains InputFault h reads writes = absurd (reads h)
    explains OutputFault h reads writes = absurd (writes h.0)
    explains NoMemory h reads writes = refl
    explains (NotEmpty device length) h reads writes = absurd h
    explains NoStore h reads writes = absurd h
    explains (Damaged damage) h reads writes = absurd h
    explains DiskFault h reads writes = absurd h
    explains Usage h reads writes = absurd h
    explains (Aborted note) h reads writes = absurd h
    explains (RowsOver name rows most) h reads writes = absurd h
    explains TooLong h reads writes = absurd h
    explains (LogFull need) h reads writes = absurd h
    explains (TooLarge bytes) h reads writes = absurd h
    explains (Image fault) h reads writes = absurd h

  explain_complete : (stop : Stop) → ExplainStops with_text source sink stop → IsSomeAnd source.before IsAcceptedText → (AnyFaulted source → ⊥) → (AnyFaulted sink → ⊥) → IsOneOf (status_of stop) (0 ∷ 9 ∷ [])
  explain_complete stop h given = let known = some_is IsAcceptedText source.before given in explains known.0 known.2 known.1 stop h

  explained_reported : (errors : Observed) (stop : Stop) → ExplainStops with_text source sink stop → IsReported errors (line_of stop) → ExplainEnds with_text (status_of stop) source sink errors
  explained_reported errors stop cause line = record {
    statuses = explain_status stop cause;
    done = λ zero. absurd (never_done stop zero);
    refused = λ two. let r = refused_of stop (ExplainStops with_text source sink) (λ fault h. h) cause two in unaccepted_as (IsUnexplainedAs source.before) errors r.fault (subst (ExplainStops with_text source sink) r.is cause) (subst (λ (s : Stop). IsReported errors (line_of s)) r.is line);
    input_fault = λ six. subst (ExplainStops with_text source sink) (input_of stop six) cause;
    output_fault = λ seven. subst (ExplainStops with_text source sink) (output_of stop seven) cause;
    complete = explain_complete stop cause;
  }

  pub explain-ends : (errors : Observed) (stop reported : Stop) (status : ℕ) → status ≡ status_of reported → Reported stop reported → ExplainStops with_text source sink stop → IsReported errors (line_of reported) → ExplainEnds with_text status source sink errors
  explain-ends errors stop reported status is which cause line =
      subst (λ (n : ℕ). ExplainEnds with_text n source sink errors) (sym is) (explained_reported errors reported (reported_cause (ExplainStops with_text source sink) stop reported which tt cause) line)

-- ---- `init`

module _ (source : Observed) (devices : ObservedDevices) where
  pub init-input : (error : InputError) → AreUntouched devices → GivesNoText source error → InitStops source devices (stop_of_input error)
  init-input input.Failed none h = (none, h)
  init-input input.TooLong none h = absurd h
  init-input (input.Script fault) none h = (none, h)
  init-input input.NoMemory none h = none

  init_status : (stop : Stop) → InitStops source devices stop → IsOneOf (status_of stop) (0 ∷ 2 ∷ 3 ∷ 6 ∷ 8 ∷ 9 ∷ [])
  init_status (ScriptStop fault) h = refl
  init_status (NotEmpty device length) h = refl
  init_status NoStore h = absurd h
  init_status (Damaged damage) h = absurd h
  init_status InputFault h = refl
  init_status DiskFault h = refl
  init_status NoMemory h = refl
  init_status Usage h = absurd h
  init_status (Aborted note) h = absurd h
  init_status (RowsOver name rows most) h = absurd h
  init_status OutputFault h = absurd h
  init_status TooLong h = absurd h
  init_status (LogFull need) h = absurd h
  init_status (TooLarge bytes) h = absurd h
  init_status (Image fault) h = absurd h

  init_untouched : (stop : Stop) → InitStops source devices stop → (status_of stop ≡ 8 → ⊥) → AreUntouched devices
  init_untouched (ScriptStop fault) h other = h.0
  init_untouched (NotEmpty device length) h other = h.1
  init_untouched NoStore h other = absurd h
  init_untouched (Damaged damage) h other = absurd h
  init_untouched InputFault h other = h.0
  init_untouched DiskFault h other = absurd (other refl)
  init_untouched NoMemory h other = h
  init_untouched Usage h other = absurd h
  init_untouched (Aborted note) h other = absurd h
  init_untouched (RowsOver name rows most) h other = absurd h
  init_untouched OutputFault h other = absurd h
  init_untouched TooLong h other = absurd h
  init_untouched (LogFull need) h other = absurd h
  init_untouched (TooLarge bytes) h other = absurd h
  init_untouched (Image fault) h other = absurd h

  init_accepted : (stop : Stop) → InitStops source devices stop → IsOneOf (status_of stop) (0 ∷ 3 ∷ 8 ∷ []) → IsAcceptedInput source.before
  init_accepted (ScriptStop fault) h early = let no : ◌≡◌ {A = Bool} false true = early in absurd cc
  init_accepted (NotEmpty device length) h early = h.0
  init_accepted NoStore h early = absurd h
  init_accepted (Damaged damage) h early = absurd h
  init_accepted InputFault h early = let no : ◌≡◌ {A = Bool} false true = early in absurd cc
  init_accepted DiskFault h early = h.0
  init_accepted NoMemory h early = let no : ◌≡◌ {A = Bool} false true = early in absurd cc
  init_accepted Usage h early = absurd h
  init_accepted (Aborted note) h early = absurd h
  init_accepted (RowsOver name rows most) h early = absurd h
  init_accepted OutputFault h early = absurd h
  init_accepted TooLong h early = absurd h
  init_accepted (LogFull need) h early = absurd h
  init_accepted (TooLarge bytes) h early = absurd h
  init_accepted (Image fault) h early = absurd h

  full_device : (stop : Stop) → ADeviceRefusal stop → InitStops source devices stop → AFullDevice stop
  full_device stop (inl d) h = d
  full_device stop (inr (inl is)) h = absurd (subst (InitStops source devices) is h)
  full_device stop (inr (inr d)) h = absurd (subst (InitStops source devices) d.is h)

  -- no device is in use where none has a byte
  none_used : (entry : Devices DiskHistory) → AreEmpty entry → (device : DeviceName) (length : ℕ) → IsFirstInUse device length entry → ⊥
  none_used entry empty Log length used = omega (arith, used.0, used.1, empty.0)
  none_used entry empty LogB length used = omega (arith, used.0, used.2, empty.1)
  none_used entry empty SlotA length used = omega (arith, used.0, used.2, empty.2)
  none_used entry empty SlotB length used = omega (arith, used.0, used.2, empty.3)

  not_used : (entry : Devices DiskHistory) → AreEmpty entry → (device : DeviceName) (length : ℕ) → (after : Option (Devices DiskHistory)) → OnceKnown (IsInUse device length) (Some entry) after → ⊥
  not_used entry empty device length None used = used
  not_used entry empty device length (Some after) used = none_used entry empty device length used.0

  -- a store is made of an accepted text on empty devices
  module _ (text : List ℕ) (accepted : IsAcceptedText text) (is : source.before ≡ Some text) (entry : Devices DiskHistory) (empty : AreEmpty entry) (known : all_known devices.before ≡ Some entry) where
    makes : (stop : Stop) → InitStops source devices stop → IsFaultless devices source → IsOneOf (status_of stop) (0 ∷ 9 ∷ [])
    makes (ScriptStop (Unaccepted fault)) h none =
        let refused : IsNoStoreText text fault = subst (λ (o : Option (List ℕ)). IsNoStoreFor o fault) is h.1 in
        absurd (refused.none accepted.0 accepted.1)
    makes (ScriptStop (Line number fault)) h none = absurd h.1
    makes (NotEmpty device length) h none =
        absurd (not_used entry empty device length (all_known devices.after) (subst (λ (all : Option (Devices DiskHistory)). OnceKnown (IsInUse device length) all (all_known devices.after)) known h.2))
    makes InputFault h none = absurd (none.1 h.1)
    makes DiskFault h none = absurd (none.0 h.1)
    makes NoMemory h none = refl
    makes NoStore h none = absurd h
    makes (Damaged damage) h none = absurd h
    makes Usage h none = absurd h
    makes (Aborted note) h none = absurd h
    makes (RowsOver name rows most) h none = absurd h
    makes OutputFault h none = absurd h
    makes TooLong h none = absurd h
    makes (LogFull need) h none = absurd h
    makes (TooLarge bytes) h none = absurd h
    makes (Image fault) h none = absurd h

  init_complete : (stop : Stop) → InitStops source devices stop → IsSomeAnd source.before IsAcceptedText → IsSomeAnd (all_known devices.before) AreEmpty → IsFaultless devices source → IsOneOf (status_of stop) (0 ∷ 9 ∷ [])
  init_complete stop h given unused =
      let known = some_is IsAcceptedText source.before given in
      let entry = some_is AreEmpty (all_known devices.before) unused in
      makes known.0 known.2 known.1 entry.0 entry.2 entry.1 stop h

  init_reported : (errors : Observed) (stop : Stop) → InitStops source devices stop → IsReported errors (line_of stop) → InitEnds (status_of stop) source errors devices
  init_reported errors stop cause line = record {
    statuses = init_status stop cause;
    accepted = init_accepted stop cause;
    done = λ zero. absurd (never_done stop zero);
    refused = λ two. let r = refused_of stop (InitStops source devices) (λ fault h. h) cause two in unaccepted_as (IsNoStoreFor source.before) errors r.fault (subst (InitStops source devices) r.is cause).1 (subst (λ (s : Stop). IsReported errors (line_of s)) r.is line);
    not_empty = λ three. let d = full_device stop (device_of stop three) cause in (d.device, d.length, (subst (InitStops source devices) d.is cause).2, subst (λ (s : Stop). IsReported errors (line_of s)) d.is line);
    input_fault = λ six. (subst (InitStops source devices) (input_of stop six) cause).1;
    disk_fault = λ eight. (subst (InitStops source devices) (disk_of stop eight) cause).1;
    untouched = λ zero eight. init_untouched stop cause eight;
    quiet = λ zero. absurd (never_done stop zero);
    complete = init_complete stop cause;
  }

  -- what was written may not be reported where there is no memory, but then nothing was: a failed device takes none
  init_cause : (stop reported : Stop) → Reported stop reported → InitStops source devices stop → InitStops source devices reported
  init_cause stop reported (inl e) h = subst (InitStops source devices) (sym e) h
  init_cause stop reported (inr e) h = subst (InitStops source devices) (sym e.0) (init_untouched stop h (no_disk stop e.1))
    where
      no_disk : (s : Stop) → IsTrue (takes_memory s) → status_of s ≡ 8 → ⊥
      no_disk DiskFault memory eight = absurd cc
      no_disk Usage memory eight = omega (arith, eight)
      no_disk (ScriptStop fault) memory eight = omega (arith, eight)
      no_disk (NotEmpty device length) memory eight = omega (arith, eight)
      no_disk NoStore memory eight = omega (arith, eight)
      no_disk (Damaged damage) memory eight = omega (arith, eight)
      no_disk (Aborted note) memory eight = omega (arith, eight)
      no_disk (RowsOver name rows most) memory eight = omega (arith, eight)
      no_disk InputFault memory eight = omega (arith, eight)
      no_disk OutputFault memory eight = omega (arith, eight)
      no_disk NoMemory memory eight = omega (arith, eight)
      no_disk TooLong memory eight = omega (arith, eight)
      no_disk (LogFull need) memory eight = omega (arith, eight)
      no_disk (TooLarge bytes) memory eight = omega (arith, eight)
      no_disk (Image fault) memory eight = omega (arith, eight)

  pub init-ends : (errors : Observed) (stop reported : Stop) (status : ℕ) → status ≡ status_of reported → Reported stop reported → InitStops source devices stop → IsReported errors (line_of reported) → InitEnds status source errors devices
  init-ends errors stop reported status is which cause line =
      subst (λ (n : ℕ). InitEnds n source errors devices) (sym is) (init_reported errors reported (init_cause stop reported which cause) line)
