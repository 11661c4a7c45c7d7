-- What a feed of a log gives: batch after batch, and how it ends.
use Rattle.std.proofs.Common.{◌≡◌, ◌≤◌, ◌+◌, ◌-◌, ◌∙◌, All, ℕ, Bool, false, true≢false, List, [], ◌∷◌, ◌++◌, length, map, Option, Some, None, is_some, Ok, Err, refl, sym, ap, subst, arith}
use Rattle.std.specs.Prelude.{slice_get, IsSomeAnd, option_map}
use Rattle.std.specs.List.{AllByRecursion}
use Rattle.std.proofs.lemmas.List.{length-append}
use Rattle.std.proofs.lemmas.List.Elements.{recursion_from_All}
use Rattle.std.proofs.lemmas.Option.{slice_get-map}
use Rattle.pac_value.specs.Values.{type_of}
use Rattle.pac_value.specs.declared.values.Ty.{Ty}
use Rattle.pac_ops.specs.declared.batch.Batch.{Batch}
use Rattle.pac_ops.specs.declared.program.Program.{Program}
use Rattle.pac_ops.specs.declared.transaction.Txn.{Txn}
use Rattle.pac_ops.specs.declared.transaction.Txn.TheVariants.{Call as ACall, AdHoc}
use Rattle.pac_ops.specs.Shapes.{TxnFitsTypes}
use Rattle.pac_outside.specs.Causes.{one_more}
use Rattle.pac_outside.specs.Disk.{DiskHistory}
use Rattle.pac_types.specs.declared.procedure.Proc.{Proc}
use Rattle.pac_types.specs.Fits.{TxnFits, shape}
use Rattle.pac_types.specs.Typing.{CatalogueState}
use Rattle.pac_types.specs.WellFormed.{types}
use Rattle.pac_flat.specs.FlatForm.{program_of}
use Rattle.pac_log.specs.declared.errors.LogError.{LogError}
use Rattle.pac_log.specs.declared.errors.LogError.TheVariants as error
use Rattle.pac_log.specs.declared.position.NextGate.{NextGate}
use Rattle.pac_log.specs.Bodies.{body_bytes}
use Rattle.pac_log.specs.Reading.{IsNextBatch}
use Rattle.pac_restore.proofs.ReadLemmas.{ReportsNext, more-txns, on-damage, on-end, on-more, read-more}
use Rattle.pac_recover.specs.declared.log_feed.FeedEnd.{FeedEnd}
use Rattle.pac_recover.specs.declared.log_feed.FeedEnd.TheVariants.{Window, End, Refused}
use Rattle.pac_recover.specs.FedLogs.{AreBodiesCounted, AreCounted, EndsAs, FillsAs, IsGivenOfLog, bodies_len}

-- ---- transactions that fit a catalogue fit the types of its programs and tables

module _ (cat : CatalogueState) where
  abbrev params : List (List Ty)
  params = map (λ (program : Program). program.params) (map program_of cat.procs)

  fits-types : (txn : Txn) → TxnFits cat txn → TxnFitsTypes params (map shape cat.tables) txn
  fits-types (ACall call) fits =
      subst (λ (o : Option (List Ty)). IsSomeAnd o (λ types. map type_of call.args ≡ types))
      (sym (slice_get-map (λ (program : Program). program.params) (map program_of cat.procs) call.proc ∙ ap (λ (o : Option Program). option_map (λ (program : Program). program.params) o) (slice_get-map program_of cat.procs call.proc)))
      (of-proc (slice_get cat.procs call.proc) fits)
    where
      of-proc : (o : Option Proc) → IsSomeAnd o (λ proc. map type_of call.args ≡ types proc.params) → IsSomeAnd (option_map (λ (program : Program). program.params) (option_map program_of o)) (λ types. map type_of call.args ≡ types)
      of-proc None fits = fits
      of-proc (Some proc) fits = fits
  fits-types (AdHoc records) fits = fits

  pub all-fit-types : (txns : List Txn) → All (TxnFits cat) txns → AllByRecursion (TxnFitsTypes params (map shape cat.tables)) txns
  all-fit-types txns all = each txns (recursion_from_All (TxnFits cat) txns all)
    where
      each : (ts : List Txn) → AllByRecursion (TxnFits cat) ts → AllByRecursion (TxnFitsTypes params (map shape cat.tables)) ts
      each [] all = tt
      each (t ∷ ts) all = (fits-types t all.0, each ts all.1)

-- ---- it goes on

module _ (known now next : Option DiskHistory) (from mid new : NextGate) (given : List Batch) (first : Option FeedEnd) (is : IsGivenOfLog known now from mid given first None) (same : next ≡ now) where
  still : next ≡ known
  still = same ∙ is.same

  -- one batch more
  pub gives-more : (batch : Batch) → IsNextBatch mid new batch → All (TxnFits mid.catalogue) batch.txns → ReportsNext mid new (Ok (Some batch)) now → IsGivenOfLog known next from new (given ++ batch ∷ []) first None
  gives-more batch after fits knows = record {
    same = still;
    read = read-more from mid new given batch is.read after fits;
    grows = omega (arith, is.grows, more-txns mid new batch after, length-append given (batch ∷ []));
    further = λ header before. on-more header before from mid new given batch known (is.further header before) (subst (ReportsNext mid new (Ok (Some batch))) is.same knows);
    ends = λ none. tt;
  }

  -- it stands where it stood
  stays : new ≡ mid → (end : FeedEnd) → EndsAs known from new given (Some end) → IsGivenOfLog known next from new given first (Some end)
  stays there end ends =
      let here : IsGivenOfLog known next from new given first None = subst (λ (g : NextGate). IsGivenOfLog known next from g given first None) (sym there) (record { same = still; read = is.read; grows = is.grows; further = is.further; ends = is.ends }) in
      record { same = still; read = here.read; grows = here.grows; further = here.further; ends = λ none. ends }

  -- the log ends
  pub ends-all : new ≡ mid → ReportsNext mid new (Ok None) now → IsGivenOfLog known next from new given first (Some End)
  ends-all there knows = stays there End (λ header before. on-end header before from mid new given known is.read.catalogue there (is.further header before) (subst (ReportsNext mid new (Ok None)) is.same knows))

  -- a batch isn't read
  pub ends-refused : new ≡ mid → (cause : LogError) → (cause ≡ error.NoStore → ⊥) → ReportsNext mid new (Err cause) now → IsGivenOfLog known next from new given first (Some (Refused cause))
  ends-refused there cause known-log knows = stays there (Refused cause) (go cause known-log (subst (ReportsNext mid new (Err cause)) is.same knows))
    where
      go : (cause : LogError) → (cause ≡ error.NoStore → ⊥) → ReportsNext mid new (Err cause) known → EndsAs known from new given (Some (Refused cause))
      go error.NoStore never knows = never refl
      go (error.Damaged at kind) never knows = λ header before. on-damage header before from mid new given at kind known is.read.catalogue (is.further header before) knows
      go error.DiskFault never knows = tt
      go error.NoMemory never knows = tt

-- ---- the bodies that were given

bodies-push : (given : List Batch) (batch : Batch) → bodies_len (given ++ batch ∷ []) ≡ bodies_len given + length (body_bytes batch.txns)
bodies-push [] batch = omega arith
bodies-push (b ∷ given) batch = omega (arith, bodies-push given batch)

module _ (missing mid : ℕ) (given : List Batch) (first : Option FeedEnd) (is : AreBodiesCounted missing mid given first None) where
  -- one body more
  pub bodies-more : (batch : Batch) (left : ℕ) → left ≡ mid - length (body_bytes batch.txns) → AreBodiesCounted missing left (given ++ batch ∷ []) first None
  bodies-more batch left less = record { counted = omega (arith, is.counted, less, bodies-push given batch); ends = λ none. tt }

  -- some are missing, and it ends for another cause
  pub bodies-end : 1 ≤ mid → (end : FeedEnd) → (end ≡ Window → ⊥) → AreBodiesCounted missing mid given first (Some end)
  bodies-end some end other = record { counted = is.counted; ends = λ begins. so end other }
    where
      so : (end : FeedEnd) → (end ≡ Window → ⊥) → FillsAs missing (bodies_len given) (Some end)
      so Window other = absurd (other refl)
      so End other = omega (arith, is.counted, some)
      so (Refused cause) other = omega (arith, is.counted, some)

-- ---- whether it ended, and by what

pub no-end : (end : Option FeedEnd) (is : Bool) → is ≡ is_some end → is ≡ false → end ≡ None
no-end None is same not = refl
no-end (Some e) is same not = absurd (true≢false (sym same ∙ not))

pub counted-so : (before now : ℕ) (cause : LogError) → (cause ≡ error.DiskFault → now ≡ one_more before) → ((cause ≡ error.DiskFault → ⊥) → now ≡ before) → AreCounted before now (Some (Refused cause))
counted-so before now error.NoStore fault kept = kept (λ e. cc e)
counted-so before now (error.Damaged at kind) fault kept = kept (λ e. cc e)
counted-so before now error.DiskFault fault kept = fault refl
counted-so before now error.NoMemory fault kept = kept (λ e. cc e)
