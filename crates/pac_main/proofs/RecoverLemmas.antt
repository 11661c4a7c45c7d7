-- What is recovered of devices, why nothing is, and how the command ends by the stop that is reported.
use Rattle.std.proofs.Common.{◌≡◌, ◌≢◌, ℕ, Bool, true, false, List, [], ◌∷◌, length, Option, Some, None, Result, Ok, Err, inl, inr, refl, sym, subst, arith}
use Rattle.std.specs.Prelude.{IsTrue}
use Rattle.pac_ops.specs.declared.transaction.Txn.{Txn}
use Rattle.pac_outside.specs.Devices.{OneFaulted, each}
use Rattle.pac_outside.specs.Disk.{DiskHistory}
use Rattle.pac_outside.specs.Parts.{reads_of}
use Rattle.pac_outside.specs.declared.devices.Devices.{Devices}
use Rattle.pac_types.specs.Execution.{first_over}
use Rattle.pac_types.specs.Typing.{CatalogueState}
use Rattle.pac_store.specs.Images.{IfImagesKnown}
use Rattle.pac_store.specs.Stands.{StandsFor}
use Rattle.pac_store.proofs.ImageLemmas.{images-any, images-then, where-known}
use Rattle.pac_restore.specs.declared.errors.LoadError.TheVariants as load
use Rattle.pac_restore.specs.declared.errors.RecoverError.{RecoverError}
use Rattle.pac_restore.specs.declared.errors.RecoverError.TheVariants as recover
use Rattle.pac_recover.specs.declared.recovery.Recovered.{Recovered}
use Rattle.pac_recover.specs.Recovering.{Recovers}
use Rattle.pac_restore.specs.Restoring.{IsRecoveredFrom}
use Rattle.pac_restore.specs.Prefixes.{IsPrefixOverLimit, IsRecoveredPrefix}
use Rattle.pac_restore.specs.Restoring.{AreRefused}
use Rattle.pac_report.specs.Dump.{tables_text}
use Rattle.pac_main.specs.Causes.{IsPrefixUnrecovered, IsRecovered, IsUnrecovered, RecoverStops}
use Rattle.pac_main.specs.Recover.{IsDumpOfPrefix, IsRecovery, IsRefusedStore, RecoverEnds, RecoversPrefix, StaysInLimit, StoredInLimit}
use Rattle.pac_main.specs.Stop.{line_of, status_of, stop_of_recover, takes_memory}
use Rattle.pac_main.specs.Streams.{IsFaultless, IsOneOf, IsTaken, IsReported, Observed, ObservedDevices}
use Rattle.pac_main.specs.declared.stop.Stop.{Stop}
use Rattle.pac_main.specs.declared.stop.Stop.TheVariants.{Usage, Script as ScriptStop, NotEmpty, NoStore, Damaged, Aborted, RowsOver, InputFault, OutputFault, DiskFault, NoMemory, LogFull, TooLong, TooLarge, Image}
use Rattle.pac_main.proofs.StatusLemmas.{ADeviceRefusal, aborted_of, device_of, disk_of, never_done, output_of, over_of}
use Rattle.pac_main.proofs.StopLemmas.{Reported}

-- ---- why nothing is recovered

-- two errors of a recovery are the same
abbrev pub IsError : RecoverError → RecoverError → Type 0
IsError error other = ◌≡◌ {A = Result Recovered RecoverError} (Err error) (Err other)

module _ (limit : ℕ) (before : Devices (Option DiskHistory)) (was is : Devices ℕ) where
  -- what a recovery says with its error
  pub record Unrecovered (error : RecoverError) : Type 0 where
    pub refused : AreRefused limit before error
    pub stands : (text : List ℕ) (catalogue : CatalogueState) (history : List Txn) (least : ℕ) → IfImagesKnown (λ images. StandsFor text catalogue history least images → Recovers catalogue history least (Err error)) before
    pub disk_fault : IsError error (recover.Load load.DiskFault) → OneFaulted was is
    pub quiet : (IsError error (recover.Load load.DiskFault) → ⊥) → is ≡ was

  module _ (after : Devices (Option DiskHistory)) (sink : Observed) where
    -- the devices, as they are observed
    abbrev devices : ObservedDevices
    devices = record { before = before; after = after; faults_before = was; faults_after = is }

    cause : (error : RecoverError) → Unrecovered error → IsUnrecovered limit devices sink (stop_of_recover error)
    cause (recover.Load load.NoStore) h = h.refused
    cause (recover.Load (load.Damaged damage)) h = h.refused
    cause (recover.Load load.DiskFault) h = h.disk_fault refl
    cause (recover.Load load.NoMemory) h = tt
    cause (recover.AbortInLog note) h = h.refused
    cause (recover.RowsOver name rows most) h = h.refused

    prefix : (error : RecoverError) → Unrecovered error → (catalogue : CatalogueState) (history : List Txn) (least : ℕ) → Recovers catalogue history least (Err error) → IsPrefixUnrecovered limit catalogue history least sink (stop_of_recover error)
    prefix (recover.Load load.NoStore) h catalogue history least f = absurd f
    prefix (recover.Load (load.Damaged damage)) h catalogue history least f = absurd f
    prefix (recover.Load load.DiskFault) h catalogue history least f = tt
    prefix (recover.Load load.NoMemory) h catalogue history least f = tt
    prefix (recover.AbortInLog note) h catalogue history least f = absurd f
    prefix (recover.RowsOver name rows most) h catalogue history least f = subst (λ (n : ℕ). IsPrefixOverLimit catalogue history least name rows n) h.refused.0 f

    no_fault : (error : RecoverError) → Unrecovered error → stop_of_recover error ≢ DiskFault → is ≡ was
    no_fault (recover.Load load.NoStore) h other = h.quiet (λ e. absurd cc)
    no_fault (recover.Load (load.Damaged damage)) h other = h.quiet (λ e. absurd cc)
    no_fault (recover.Load load.DiskFault) h other = absurd (other refl)
    no_fault (recover.Load load.NoMemory) h other = h.quiet (λ e. absurd cc)
    no_fault (recover.AbortInLog note) h other = h.quiet (λ e. absurd cc)
    no_fault (recover.RowsOver name rows most) h other = h.quiet (λ e. absurd cc)

    pub not-recovered : (error : RecoverError) → Unrecovered error → RecoverStops limit devices sink (stop_of_recover error)
    not-recovered error h = record {
      cause = cause error h;
      stands = λ text catalogue history least.
          images-then (λ images. StandsFor text catalogue history least images → Recovers catalogue history least (Err error)) (λ images. StandsFor text catalogue history least images → IsPrefixUnrecovered limit catalogue history least sink (stop_of_recover error))
          (λ images f stands. prefix error h catalogue history least (f stands)) before (h.stands text catalogue history least);
      quiet = no_fault error h;
    }

    -- what is recovered finds no memory for its text
    pub no-text : is ≡ was → RecoverStops limit devices sink NoMemory
    no-text quiet = record { cause = tt; stands = λ text catalogue history least. images-any (λ images. StandsFor text catalogue history least images → Unit {0}) (λ images stands. tt) before; quiet = λ other. quiet }

-- ---- what is recovered

-- what a recovery says of its tables
pub record IsFound (limit : ℕ) (before : Devices (Option DiskHistory)) (recovered : Recovered) : Type 0 where
  pub is : IfImagesKnown (IsRecoveredFrom recovered.catalogue recovered.tables.rows recovered.txns) before
  pub within : first_over limit (length recovered.catalogue.tables) recovered.tables.rows ≡ None
  pub stands : (text : List ℕ) (catalogue : CatalogueState) (history : List Txn) (least : ℕ) → IfImagesKnown (λ images. StandsFor text catalogue history least images → Recovers catalogue history least (Ok recovered)) before

-- the limit is handed down as another number type
pub found_of : (limit number : ℕ) (before : Devices (Option DiskHistory)) (recovered : Recovered) → number ≡ limit → IfImagesKnown (IsRecoveredFrom recovered.catalogue recovered.tables.rows recovered.txns) before → first_over number (length recovered.catalogue.tables) recovered.tables.rows ≡ None
    → ((text : List ℕ) (catalogue : CatalogueState) (history : List Txn) (least : ℕ) → IfImagesKnown (λ images. StandsFor text catalogue history least images → Recovers catalogue history least (Ok recovered)) before) → IsFound limit before recovered
found_of limit number before recovered same is within stands = record { is = is; within = subst (λ (n : ℕ). first_over n (length recovered.catalogue.tables) recovered.tables.rows ≡ None) same within; stands = stands }

module _ (limit : ℕ) (before : Devices (Option DiskHistory)) (recovered : Recovered) (found : IsFound limit before recovered) (P : List ℕ → Type 0) (has : P (tables_text recovered.tables.rows 0 recovered.catalogue.tables)) where
  pub is-recovery : IsRecovery limit before P
  is-recovery = record { catalogue = recovered.catalogue; tables = recovered.tables.rows; txns = recovered.txns; is = found.is; within = found.within; has = has }

  one_prefix : (catalogue : CatalogueState) (history : List Txn) (least : ℕ) → IsRecoveredPrefix catalogue history least recovered.catalogue recovered.tables.rows recovered.txns → IsDumpOfPrefix limit catalogue history least P
  one_prefix catalogue history least f = record {
    tables = recovered.tables.rows;
    are = record { count = recovered.txns; enough = f.enough; within = f.within; ends = f.ends };
    within = subst (λ (c : CatalogueState). first_over limit (length c.tables) recovered.tables.rows ≡ None) f.same found.within;
    has = subst (λ (c : CatalogueState). P (tables_text recovered.tables.rows 0 c.tables)) f.same has;
  }

  pub is-prefix-dump : (text : List ℕ) (catalogue : CatalogueState) (history : List Txn) (least : ℕ) → IfImagesKnown (λ images. StandsFor text catalogue history least images → IsDumpOfPrefix limit catalogue history least P) before
  is-prefix-dump text catalogue history least =
      images-then (λ images. StandsFor text catalogue history least images → Recovers catalogue history least (Ok recovered)) (λ images. StandsFor text catalogue history least images → IsDumpOfPrefix limit catalogue history least P)
      (λ images f stands. one_prefix catalogue history least (f stands)) before (found.stands text catalogue history least)

-- ---- the statuses

module _ (limit : ℕ) (devices : ObservedDevices) (sink errors : Observed) where
  status : (stop : Stop) → IsUnrecovered limit devices sink stop → IsOneOf (status_of stop) (0 ∷ 3 ∷ 4 ∷ 5 ∷ 7 ∷ 8 ∷ 9 ∷ [])
  status NoStore h = refl
  status (Damaged damage) h = refl
  status (Aborted note) h = refl
  status (RowsOver name rows most) h = refl
  status OutputFault h = refl
  status DiskFault h = refl
  status NoMemory h = refl
  status Usage h = absurd h
  status (ScriptStop fault) h = absurd h
  status (NotEmpty device length) h = absurd h
  status InputFault h = absurd h
  status TooLong h = absurd h
  status (LogFull need) h = absurd h
  status (TooLarge bytes) h = absurd h
  status (Image fault) h = absurd h

  -- a device's refusal is reported
  refused : (stop : Stop) → ADeviceRefusal stop → IsUnrecovered limit devices sink stop → IsReported errors (line_of stop) → IsRefusedStore devices.before errors
  refused stop (inl d) h line = absurd (subst (IsUnrecovered limit devices sink) d.is h)
  refused stop (inr (inl is)) h line = inl (subst (IsUnrecovered limit devices sink) is h, subst (λ (s : Stop). IsReported errors (line_of s)) is line)
  refused stop (inr (inr d)) h line = inr (d.damage, subst (IsUnrecovered limit devices sink) d.is h, subst (λ (s : Stop). IsReported errors (line_of s)) d.is line)

  module _ (catalogue : CatalogueState) (history : List Txn) (least : ℕ) where
    not_refused : (stop : Stop) → ADeviceRefusal stop → IsUnrecovered limit devices sink stop → IsPrefixUnrecovered limit catalogue history least sink stop → ⊥
    not_refused stop (inl d) h f = subst (IsUnrecovered limit devices sink) d.is h
    not_refused stop (inr (inl is)) h f = subst (IsPrefixUnrecovered limit catalogue history least sink) is f
    not_refused stop (inr (inr d)) h f = subst (IsPrefixUnrecovered limit catalogue history least sink) d.is f

    over : (name : List ℕ) (rows : ℕ) → IsPrefixOverLimit catalogue history least name rows limit → StaysInLimit limit catalogue history least → ⊥
    over name rows f stays = let none = stays f.held (record { count = f.count; enough = f.enough; within = f.within; ends = f.ends }) in let some = f.over.1 in absurd cc

    complete : (stop : Stop) → IsUnrecovered limit devices sink stop → IsPrefixUnrecovered limit catalogue history least sink stop → IsFaultless devices sink → StaysInLimit limit catalogue history least → IsOneOf (status_of stop) (0 ∷ 9 ∷ [])
    complete NoStore h f none stays = absurd f
    complete (Damaged damage) h f none stays = absurd f
    complete (Aborted note) h f none stays = absurd f
    complete (RowsOver name rows most) h f none stays = absurd (over name rows f stays)
    complete OutputFault h f none stays = absurd (none.1 h.0)
    complete DiskFault h f none stays = absurd (none.0 h)
    complete NoMemory h f none stays = refl
    complete Usage h f none stays = absurd h
    complete (ScriptStop fault) h f none stays = absurd h
    complete (NotEmpty device length) h f none stays = absurd h
    complete InputFault h f none stays = absurd h
    complete TooLong h f none stays = absurd h
    complete (LogFull need) h f none stays = absurd h
    complete (TooLarge bytes) h f none stays = absurd h
    complete (Image fault) h f none stays = absurd h

    stopped : (stop : Stop) → IsUnrecovered limit devices sink stop → IsPrefixUnrecovered limit catalogue history least sink stop → RecoversPrefix limit (status_of stop) catalogue history least devices sink
    stopped stop h f = record {
      done = λ zero. absurd (never_done stop zero);
      undamaged = λ three. not_refused stop (device_of stop three) h f;
      executes = λ four. subst (IsPrefixUnrecovered limit catalogue history least sink) (aborted_of stop four).is f;
      over_limit = λ five. let o = over_of stop five in (o.name, o.rows, subst (IsPrefixUnrecovered limit catalogue history least sink) o.is f);
      output_fault = λ seven. subst (IsPrefixUnrecovered limit catalogue history least sink) (output_of stop seven) f;
      complete = complete stop h f;
    }

    finished : IsDumpOfPrefix limit catalogue history least (IsTaken sink) → RecoversPrefix limit 0 catalogue history least devices sink
    finished dump = record {
      done = λ zero. dump;
      undamaged = λ three. absurd (omega (arith, three));
      executes = λ four. absurd (omega (arith, four));
      over_limit = λ five. absurd (omega (arith, five));
      output_fault = λ seven. absurd (omega (arith, seven));
      complete = λ none stays. refl;
    }

  -- what is stored is within the limit
  recovers : (known : Devices DiskHistory) (stop : Stop) → IsUnrecovered limit (record devices { before = each Some known }) sink stop → (catalogue : CatalogueState) (history : List Txn) (least : ℕ)
      → IsPrefixUnrecovered limit catalogue history least sink stop → StoredInLimit limit (reads_of known) → IsFaultless devices sink → IsOneOf (status_of stop) (0 ∷ 9 ∷ [])
  recovers known NoStore h catalogue history least f stays none = absurd f
  recovers known (Damaged damage) h catalogue history least f stays none = absurd f
  recovers known (Aborted note) h catalogue history least f stays none = absurd f
  recovers known (RowsOver name rows most) h catalogue history least f stays none = absurd (stays name rows h.1)
  recovers known OutputFault h catalogue history least f stays none = absurd (none.1 h.0)
  recovers known DiskFault h catalogue history least f stays none = absurd (none.0 h)
  recovers known NoMemory h catalogue history least f stays none = refl
  recovers known Usage h catalogue history least f stays none = absurd h
  recovers known (ScriptStop fault) h catalogue history least f stays none = absurd h
  recovers known (NotEmpty device length) h catalogue history least f stays none = absurd h
  recovers known InputFault h catalogue history least f stays none = absurd h
  recovers known TooLong h catalogue history least f stays none = absurd h
  recovers known (LogFull need) h catalogue history least f stays none = absurd h
  recovers known (TooLarge bytes) h catalogue history least f stays none = absurd h
  recovers known (Image fault) h catalogue history least f stays none = absurd h

  recovers_all : (stop : Stop) → RecoverStops limit devices sink stop → (text : List ℕ) (catalogue : CatalogueState) (history : List Txn) (least : ℕ)
      → IfImagesKnown (λ images. StandsFor text catalogue history least images → StoredInLimit limit images → IsFaultless devices sink → IsOneOf (status_of stop) (0 ∷ 9 ∷ [])) devices.before
  recovers_all stop h text catalogue history least = where-known Of (λ images. StandsFor text catalogue history least images → StoredInLimit limit images → IsFaultless devices sink → IsOneOf (status_of stop) (0 ∷ 9 ∷ []))
      (λ known of stands. recovers known stop of.0 catalogue history least (of.1 stands)) devices.before (h.cause, h.stands text catalogue history least)
    where
      Of : Devices (Option DiskHistory) → Type 0
      Of d = IsUnrecovered limit (record devices { before = d }) sink stop × IfImagesKnown (λ images. StandsFor text catalogue history least images → IsPrefixUnrecovered limit catalogue history least sink stop) d

  ends_reported : (stop : Stop) → RecoverStops limit devices sink stop → devices.after ≡ devices.before → IsReported errors (line_of stop) → RecoverEnds limit (status_of stop) devices sink errors
  ends_reported stop h same line = record {
    is = record {
      statuses = status stop h.cause;
      stands = λ text catalogue history least.
          images-then (λ images. StandsFor text catalogue history least images → IsPrefixUnrecovered limit catalogue history least sink stop) (λ images. StandsFor text catalogue history least images → RecoversPrefix limit (status_of stop) catalogue history least devices sink)
          (λ images f stands. stopped catalogue history least stop h.cause (f stands)) devices.before (h.stands text catalogue history least);
      output_fault = λ seven. (subst (IsUnrecovered limit devices sink) (output_of stop seven) h.cause).0;
      disk_fault = λ eight. subst (IsUnrecovered limit devices sink) (disk_of stop eight) h.cause;
    };
    done = λ zero. absurd (never_done stop zero);
    refused = λ three. refused stop (device_of stop three) h.cause line;
    aborted = λ four. let a = aborted_of stop four in (a.note, subst (IsUnrecovered limit devices sink) a.is h.cause, subst (λ (s : Stop). IsReported errors (line_of s)) a.is line);
    over_limit = λ five.
        let o = over_of stop five in
        let why = subst (IsUnrecovered limit devices sink) o.is h.cause in
        (o.name, o.rows, why.1, subst (λ (n : ℕ). IsReported errors (line_of (RowsOver o.name o.rows n))) why.0 (subst (λ (s : Stop). IsReported errors (line_of s)) o.is line));
    output_fault = λ seven. (subst (IsUnrecovered limit devices sink) (output_of stop seven) h.cause).1;
    untouched = same;
    complete = recovers_all stop h;
    quiet = λ other. h.quiet (λ is. other (subst (λ (s : Stop). status_of s ≡ 8) (sym is) refl));
  }

  -- running out of memory for a line is no fault of a device, which has a line that takes none
  no_line : (stop : Stop) → IsTrue (takes_memory stop) → RecoverStops limit devices sink stop → RecoverStops limit devices sink NoMemory
  no_line stop memory h = record {
    cause = tt;
    stands = λ text catalogue history least.
        images-then (λ images. StandsFor text catalogue history least images → IsPrefixUnrecovered limit catalogue history least sink stop) (λ images. StandsFor text catalogue history least images → Unit {0}) (λ images f stands. tt) devices.before (h.stands text catalogue history least);
    quiet = λ other. h.quiet (λ is. let no : ◌≡◌ {A = Bool} false true = subst (λ (s : Stop). IsTrue (takes_memory s)) is memory in absurd cc);
  }

  which : (stop reported : Stop) → Reported stop reported → RecoverStops limit devices sink stop → RecoverStops limit devices sink reported
  which stop reported (inl e) h = subst (RecoverStops limit devices sink) (sym e) h
  which stop reported (inr e) h = subst (RecoverStops limit devices sink) (sym e.0) (no_line stop e.1 h)

  pub recover-ends : (stop reported : Stop) (n : ℕ) → n ≡ status_of reported → Reported stop reported → RecoverStops limit devices sink stop → devices.after ≡ devices.before → IsReported errors (line_of reported) → RecoverEnds limit n devices sink errors
  recover-ends stop reported n is same h untouched line =
      subst (λ (m : ℕ). RecoverEnds limit m devices sink errors) (sym is) (ends_reported reported (which stop reported same h) untouched line)

  pub recover-done : IsRecovered limit devices sink → devices.after ≡ devices.before → RecoverEnds limit 0 devices sink errors
  recover-done h same = record {
    is = record {
      statuses = refl;
      stands = λ text catalogue history least.
          images-then (λ images. StandsFor text catalogue history least images → IsDumpOfPrefix limit catalogue history least (IsTaken sink)) (λ images. StandsFor text catalogue history least images → RecoversPrefix limit 0 catalogue history least devices sink)
          (λ images f stands. finished catalogue history least (f stands)) devices.before (h.stands text catalogue history least);
      output_fault = λ seven. absurd (omega (arith, seven));
      disk_fault = λ eight. absurd (omega (arith, eight));
    };
    done = λ zero. h.dump;
    refused = λ three. absurd (omega (arith, three));
    aborted = λ four. absurd (omega (arith, four));
    over_limit = λ five. absurd (omega (arith, five));
    output_fault = λ seven. absurd (omega (arith, seven));
    untouched = same;
    complete = λ text catalogue history least.
        images-any (λ images. StandsFor text catalogue history least images → StoredInLimit limit images → IsFaultless devices sink → IsOneOf 0 (0 ∷ 9 ∷ [])) (λ images stands stays none. refl) devices.before;
    quiet = λ other. h.quiet;
  }

-- ---- running out of memory has no cause

-- devices that are not called
abbrev pub uncalled : Devices (Option DiskHistory) → Devices ℕ → ObservedDevices
uncalled known faults = record { before = known; after = known; faults_before = faults; faults_after = faults }
