-- What an engine stands for on its devices: while its log is called, and from one move to the next.
use Rattle.std.proofs.Common.{◌≡◌, ◌∙◌, ◌⊎◌, inl, inr, ⊎_elim, ℕ, ◌+◌, ◌≤◌, List, [], ◌∷◌, ◌++◌, length, Option, Some, None, Result, Ok, Err, refl, sym, ap, subst, arith, append_assoc, length-append}
use Rattle.std.specs.FinMap.{empty}
use Rattle.std.proofs.lemmas.List.{append-nil}
use Rattle.std.proofs.lemmas.List.Elements.{All-append, All-cons, All-nil}
use Rattle.std.specs.List.{All}
use Rattle.pac_value.specs.State.{Tables}
use Rattle.pac_ops.specs.declared.transaction.Txn.{Txn}
use Rattle.pac_outside.specs.Disk.{DiskHistory, DiskState, IsImage, LeavesOnly}
use Rattle.pac_outside.specs.Devices.{AllLeave, RunLeaves, log_at, log_named, with_device}
use Rattle.pac_outside.specs.Devices.RunLeaves.{rests}
use Rattle.pac_outside.specs.Devices.WhichDevice.{the_log, the_log_b}
use Rattle.pac_outside.specs.GateByte.{OneImage}
use Rattle.pac_outside.proofs.Histories.{weaken}
use Rattle.pac_outside.proofs.Runs.{OthersAre, device_runs, run_then, run_end, weaken_run}
use Rattle.pac_outside.specs.declared.devices.Devices.{Devices}
use Rattle.pac_outside.specs.declared.devices.LogName.{LogName}
use Rattle.pac_outside.specs.declared.devices.LogName.TheVariants.{Log, LogB}
use Rattle.pac_types.specs.Fits.{TxnFits}
use Rattle.pac_types.specs.Typing.{CatalogueState}
use Rattle.pac_serial.specs.declared.execute.ExecError.{ExecError}
use Rattle.pac_request.specs.declared.request.Request.{Request}
use Rattle.pac_log.specs.declared.header.Header.{Header}
use Rattle.pac_log.specs.Logs.{HoldsLog, all_txns, base_in, header_with, number_after}
use Rattle.pac_log.specs.Places.{IsAfter}
use Rattle.pac_log.proofs.LogLemmas.{all_txns-append}
use Rattle.pac_log.proofs.OneGate.{stays}
use Rattle.pac_check.specs.declared.info.SlotInfo.{SlotInfo}
use Rattle.pac_check.specs.declared.state.SlotState.{SlotState}
use Rattle.pac_check.specs.SlotStates.{active_of, newest_of}
use Rattle.pac_store.specs.Images.{Images}
use Rattle.pac_store.specs.Saving.{KeepsBy, KnownStore, last_number}
use Rattle.pac_store.specs.Stands.{IsHistory, IsShutOrPrefix, StandsFor}
use Rattle.pac_store.specs.Stored.{IsPlaced}
use Rattle.pac_store.specs.Writing.{known_with}
use Rattle.pac_store.proofs.SavingLemmas.{image-of, saved-in, stands, still-leaves}
use Rattle.pac_store.proofs.StandsLemmas.{fewer, fewer-saved, longer, prefix-longer, prefix-within}
use Rattle.pac_session.specs.Session.{Rules, SessionState, commits, commits_asked, committed_by, state_after, txn_of, txn_outcome}
use Rattle.pac_session.specs.Open.{rules_of, state_now}
use Rattle.pac_session.proofs.SessionLemmas.{after-serial, serial-then}
use Rattle.pac_engine.specs.declared.parts.EngineParts.{EngineParts}
use Rattle.pac_engine.specs.Committing.{HasAdded, MayAdd, gate_past, with_batch}
use Rattle.pac_engine.specs.Moves.{committed_parts, with_request}
use Rattle.pac_engine.specs.Standing.{KeepsHistory, MayLeave, StandsOn, StandsWith, durable_of, saved_of}
use Rattle.pac_engine.proofs.DeviceLemmas.{image-there, put-a, put-b, put-log}

-- ---- a log with the transactions of a group after it

pub all-with : (batches : List (List Txn)) (txns : List Txn) → all_txns (with_batch batches txns) ≡ all_txns batches ++ txns
all-with batches [] = sym (append-nil (all_txns batches))
all-with batches (txn ∷ txns) = all_txns-append batches ((txn ∷ txns) ∷ []) ∙ ap (λ (l : List Txn). all_txns batches ++ l) (append-nil (txn ∷ txns))

number-with : (header : Header) (batches : List (List Txn)) (txns : List Txn) → number_after header (with_batch batches txns) ≡ number_after header batches + length txns
number-with header batches txns = omega (arith, ap (λ (l : List Txn). length l) (all-with batches txns), length-append (all_txns batches) txns)

-- a gate of a log is one of a longer one
placed-with : (header : Header) (batches : List (List Txn)) (txns : List Txn) (newest : Option SlotInfo) → IsPlaced header batches newest → IsPlaced header (with_batch batches txns) newest
placed-with header batches [] newest is = is
placed-with header batches (txn ∷ txns) None is = is
placed-with header batches (txn ∷ txns) (Some info) is = stays header batches ((txn ∷ txns) ∷ []) info.place info.txns is

-- ---- what the devices leave

pub stands-less : (text : List ℕ) (catalogue : CatalogueState) (history : List Txn) (least saved least' saved' : ℕ) (images : Images) → least' ≤ least → saved' ≤ saved → StandsWith text catalogue history least saved images → StandsWith text catalogue history least' saved' images
stands-less text catalogue history least saved least' saved' images le le' is = record { stands = fewer text catalogue history least least' images le is.stands; saves = fewer-saved catalogue saved saved' images le' is.saves }

pub stands-longer : (text : List ℕ) (catalogue : CatalogueState) (history more : List Txn) (least saved : ℕ) (images : Images) → IsHistory catalogue (history ++ more) → StandsWith text catalogue history least saved images → StandsWith text catalogue (history ++ more) least saved images
stands-longer text catalogue history more least saved images executes is = record { stands = longer text catalogue history more least images executes is.stands; saves = is.saves }

module _ (text : List ℕ) (history : List Txn) (e : EngineParts) (devices : Devices DiskHistory) (is : StandsOn text history e devices) where
  abbrev cat : CatalogueState
  cat = e.session.catalogue

  abbrev known : KnownStore
  known = known_with e.slots is.form is.batches

  pub durable-is : durable_of e ≡ last_number text (known_with e.slots is.form is.batches)
  durable-is = is.after.txns

  -- what is kept of the devices is what may be left
  pub may-of : (name : LogName) (images : Images) → KeepsBy name text e.session.catalogue history (known_with e.slots is.form is.batches) images → MayLeave text e.session.catalogue history e images
  may-of name images keeps = record { stands = subst (λ (n : ℕ). StandsFor text cat history n images) (sym durable-is) keeps.0.0; saves = keeps.1 }

  -- each image of the devices stands for the history
  pub stands-now : AllLeave (MayLeave text e.session.catalogue history e) devices
  stands-now images are = may-of (active_of e.slots) images (still-leaves text cat history known devices is.still images are)

  pub long-is : length history ≡ durable_of e + length e.session.txns
  long-is = omega (arith, ap (λ (t : List Txn). length t) is.still.split, length-append is.still.earlier (all_txns is.batches ++ is.still.later), length-append (all_txns is.batches) is.still.later, is.still.before, ap (λ (t : List Txn). length t) is.later, durable-is)

-- where what is durable and saved is as it was, a crash leaves what it left
pub leave-same : (text : List ℕ) (catalogue : CatalogueState) (history : List Txn) (before now : EngineParts) (devices : Devices DiskHistory) → durable_of now ≡ durable_of before → saved_of now ≡ saved_of before
    → AllLeave (MayLeave text catalogue history before) devices → AllLeave (MayLeave text catalogue history now) devices
leave-same text catalogue history before now devices durable saved leaves = λ images are.
    stands-less text catalogue history (durable_of before) (saved_of before) (durable_of now) (saved_of now) images (omega (arith, durable)) (omega (arith, saved)) (leaves images are)

-- ---- a commit

module _ (text : List ℕ) (history : List Txn) (e : EngineParts) (devices : Devices DiskHistory) (is : StandsOn text history e devices) (n : DiskHistory)
    (may : MayAdd (header_with is.form text) e.session.catalogue is.batches e.session.txns (log_at (active_of e.slots) devices) n) where
  abbrev more : List (List Txn)
  more = with_batch is.batches e.session.txns

  abbrev header : Header
  header = header_with is.form text

  more-split : history ≡ is.still.earlier ++ (all_txns more ++ [])
  more-split = is.still.split ∙ ap (λ (t : List Txn). is.still.earlier ++ (all_txns is.batches ++ t)) is.later ∙ ap (λ (t : List Txn). is.still.earlier ++ t) (sym (all-with is.batches e.session.txns) ∙ sym (append-nil (all_txns more)))

  more-prefix : (state : SlotState) (image : List ℕ) → IsShutOrPrefix e.session.catalogue history (number_after header is.batches) state image → IsShutOrPrefix e.session.catalogue history (number_after header more) state image
  more-prefix state image prefix = prefix-within e.session.catalogue history (number_after header is.batches) (number_after header more) state image (omega (arith, number-with header is.batches e.session.txns)) prefix

  abbrev Left : Images → Type 0
  Left images = MayLeave text e.session.catalogue history e images

  abbrev Either : List ℕ → Type 0
  Either image = HoldsLog header e.session.catalogue is.batches image ⊎ HoldsLog header e.session.catalogue more image

  -- images of the slots, and of a log that has these batches
  left-with : (batches : List (List Txn)) (later : List Txn) (images : Images) → IsImage devices.slot_a.now images.slot_a → IsImage devices.slot_b.now images.slot_b → history ≡ is.still.earlier ++ (all_txns batches ++ later) → number_after header is.batches ≤ number_after header batches
      → IsPlaced header batches (newest_of e.slots) → HoldsLog header e.session.catalogue batches (log_at (active_of e.slots) images) → Left images
  left-with batches later images is_a is_b split enough placed log =
      let a : IsShutOrPrefix e.session.catalogue history (number_after header is.batches) e.slots.a images.slot_a = image-there _ devices.slot_a.now is.still.slot_a images.slot_a is_a in
      let b : IsShutOrPrefix e.session.catalogue history (number_after header is.batches) e.slots.b images.slot_b = image-there _ devices.slot_b.now is.still.slot_b images.slot_b is_b in
      record {
        stands = (stands text e.session.catalogue history (known_with e.slots is.form batches) images (active_of e.slots) (durable_of e) is.still.executes
            (prefix-within e.session.catalogue history (number_after header is.batches) (number_after header batches) e.slots.a images.slot_a enough a) (prefix-within e.session.catalogue history (number_after header is.batches) (number_after header batches) e.slots.b images.slot_b enough b)
            refl log placed is.still.earlier later is.still.before split (omega (arith, enough, durable-is text history e devices is))).0;
        saves = saved-in text e.session.catalogue history (number_after header is.batches) e.slots.a e.slots.b images a b;
      }

  old-or-new : (images : Images) → IsImage devices.slot_a.now images.slot_a → IsImage devices.slot_b.now images.slot_b → Either (log_at (active_of e.slots) images) → Left images
  old-or-new images is_a is_b which = ⊎_elim
      (λ old. left-with is.batches is.still.later images is_a is_b is.still.split (omega arith) is.still.placed old)
      (λ new. left-with more [] images is_a is_b more-split (omega (arith, number-with header is.batches e.session.txns)) (placed-with header is.batches e.session.txns (newest_of e.slots) is.still.placed) new) which

  pub commit-run : RunLeaves (MayLeave text e.session.catalogue history e) devices (with_device (log_named (active_of e.slots)) n devices)
  commit-run = go (active_of e.slots) refl (may is.still.log)
    where
      here : (name : LogName) → active_of e.slots ≡ name → (images : Images) → IsImage devices.slot_a.now images.slot_a → IsImage devices.slot_b.now images.slot_b → Either (log_at name images) → Left images
      here name same images is_a is_b which = old-or-new images is_a is_b (subst (λ (m : LogName). Either (log_at m images)) (sym same) which)

      go : (name : LogName) → active_of e.slots ≡ name → LeavesOnly Either (log_at name devices) n → RunLeaves Left devices (with_device (log_named name) n devices)
      go Log same run = device_runs Left the_log devices n (weaken Either (λ image. (images : Images) → OthersAre the_log devices images → Left (with_device the_log image images)) devices.log n
          (λ image which images are. here Log same (with_device the_log image images) are.1 are.2 which) run)
      go LogB same run = device_runs Left the_log_b devices n (weaken Either (λ image. (images : Images) → OthersAre the_log_b devices images → Left (with_device the_log_b image images)) devices.log_b n
          (λ image which images are. here LogB same (with_device the_log_b image images) are.1 are.2 which) run)

  pub commit-fails : (now : EngineParts) → durable_of now ≡ durable_of e → saved_of now ≡ saved_of e → KeepsHistory text history e now devices (with_device (log_named (active_of e.slots)) n devices)
  commit-fails now durable saved = record {
    executes = is.still.executes;
    moments = commit-run;
    end = leave-same text e.session.catalogue history e now (with_device (log_named (active_of e.slots)) n devices) durable saved (run_end (MayLeave text e.session.catalogue history e) devices (with_device (log_named (active_of e.slots)) n devices) commit-run);
  }

  module _ (added : HasAdded (header_with is.form text) e.session.catalogue is.batches e.session.txns (log_at (active_of e.slots) devices) n) (after : IsAfter (header_with is.form text) more (gate_past e.session.txns e.log.gate)) where
    pub commit-stands : StandsOn text history (committed_parts e) (with_device (log_named (active_of e.slots)) n devices)
    commit-stands = record {
      form = is.form;
      batches = more;
      still = record {
        executes = is.still.executes;
        slot_a = subst (λ (d : DiskHistory). OneImage (IsShutOrPrefix e.session.catalogue history (number_after header more) e.slots.a) d.now) (sym (put-a (active_of e.slots) n devices)) (record { one = is.still.slot_a.one; has = more-prefix e.slots.a devices.slot_a.now.seen is.still.slot_a.has });
        slot_b = subst (λ (d : DiskHistory). OneImage (IsShutOrPrefix e.session.catalogue history (number_after header more) e.slots.b) d.now) (sym (put-b (active_of e.slots) n devices)) (record { one = is.still.slot_b.one; has = more-prefix e.slots.b devices.slot_b.now.seen is.still.slot_b.has });
        log = subst (λ (d : DiskHistory). OneImage (HoldsLog header e.session.catalogue more) d.now) (sym (put-log (active_of e.slots) n devices)) (added is.still.log);
        placed = placed-with header is.batches e.session.txns (newest_of e.slots) is.still.placed;
        earlier = is.still.earlier;
        later = [];
        before = is.still.before;
        split = more-split;
      };
      after = after;
      later = refl;
      ends = is.ends;
    }

    pub commit-keeps : KeepsHistory text history e (committed_parts e) devices (with_device (log_named (active_of e.slots)) n devices)
    commit-keeps = record { executes = is.still.executes; moments = commit-run; end = stands-now text history (committed_parts e) (with_device (log_named (active_of e.slots)) n devices) commit-stands }

-- ---- a request is executed

-- what a request commits fits the catalogue
commits-fit : (rules : Rules) (state : SessionState) (asked : Option Txn) → ((txn : Txn) → asked ≡ Some txn → TxnFits rules.catalogue txn) → All (TxnFits rules.catalogue) (commits_asked rules state asked)
commits-fit rules state None fits = All-nil (TxnFits rules.catalogue)
commits-fit rules state (Some txn) fits = go (txn_outcome rules state.tables txn)
  where
    go : (r : Result Tables ExecError) → All (TxnFits rules.catalogue) (committed_by txn r)
    go (Ok tables) = All-cons (TxnFits rules.catalogue) txn [] (fits txn refl) (All-nil (TxnFits rules.catalogue))
    go (Err refusal) = All-nil (TxnFits rules.catalogue)

module _ (text : List ℕ) (history : List Txn) (e : EngineParts) (asked : Request) (fits : (txn : Txn) → txn_of asked ≡ Some txn → TxnFits e.session.catalogue txn) (counted : e.log.gate.txns ≡ e.session.before) where
  abbrev asks : List Txn
  asks = commits (rules_of e.session) (state_now e.session) asked

  pub asked-stands : (devices : Devices DiskHistory) → StandsOn text history e devices → StandsOn text (history ++ commits (rules_of e.session) (state_now e.session) asked) (with_request asked e) devices
  asked-stands devices is =
      let long : 1 + length history ≡ e.session.before + length e.session.txns + 1 = omega (arith, long-is text history e devices is, counted) in
      let within : number_after (header_with is.form text) is.batches ≤ length history = omega (arith, long-is text history e devices is, durable-is text history e devices is) in
      let ends = serial-then e.session.catalogue.procs 1 history asks empty e.session.tables (state_after (rules_of e.session) (state_now e.session) asked).tables (e.session.before + length e.session.txns + 1) is.ends long
      (after-serial (rules_of e.session) (state_now e.session) asked) in
      record {
        form = is.form;
        batches = is.batches;
        still = record {
          executes = record { fit = All-append (TxnFits e.session.catalogue) history asks is.still.executes.fit (commits-fit (rules_of e.session) (state_now e.session) (txn_of asked) fits); held = (state_after (rules_of e.session) (state_now e.session) asked).tables; ends = ends };
          slot_a = record { one = is.still.slot_a.one; has = prefix-longer e.session.catalogue history asks (number_after (header_with is.form text) is.batches) e.slots.a devices.slot_a.now.seen within is.still.slot_a.has };
          slot_b = record { one = is.still.slot_b.one; has = prefix-longer e.session.catalogue history asks (number_after (header_with is.form text) is.batches) e.slots.b devices.slot_b.now.seen within is.still.slot_b.has };
          log = is.still.log;
          placed = is.still.placed;
          earlier = is.still.earlier;
          later = is.still.later ++ asks;
          before = is.still.before;
          split = ap (λ (t : List Txn). t ++ asks) is.still.split ∙ append_assoc is.still.earlier (all_txns is.batches ++ is.still.later) asks ∙ ap (λ (t : List Txn). is.still.earlier ++ t) (append_assoc (all_txns is.batches) is.still.later asks);
        };
        after = is.after;
        later = ap (λ (t : List Txn). t ++ asks) is.later;
        ends = ends;
      }

  pub asked-history : (devices : Devices DiskHistory) → StandsOn text history e devices → IsHistory e.session.catalogue (history ++ commits (rules_of e.session) (state_now e.session) asked)
  asked-history devices is = (asked-stands devices is).still.executes

  -- no device is called
  pub asked-keeps : (now : EngineParts) → durable_of now ≡ durable_of e → saved_of now ≡ saved_of e → (devices : Devices DiskHistory) → StandsOn text history e devices → KeepsHistory text (history ++ commits (rules_of e.session) (state_now e.session) asked) e now devices devices
  asked-keeps now durable saved devices is =
      let leaves : AllLeave (MayLeave text e.session.catalogue (history ++ asks) e) devices = stands-now text (history ++ asks) (with_request asked e) devices (asked-stands devices is) in
      record { executes = asked-history devices is; moments = rests devices leaves; end = leave-same text e.session.catalogue (history ++ asks) e now devices durable saved leaves }

-- ---- from one move to the next

pub keeps-as : (text : List ℕ) (history : List Txn) (before now other : EngineParts) (old new : Devices DiskHistory) → durable_of other ≡ durable_of now → saved_of other ≡ saved_of now → KeepsHistory text history before now old new → KeepsHistory text history before other old new
keeps-as text history before now other old new durable saved keeps = record { executes = keeps.executes; moments = keeps.moments; end = leave-same text before.session.catalogue history now other new durable saved keeps.end }

pub keeps-longer : (text : List ℕ) (history more : List Txn) (before now : EngineParts) (old new : Devices DiskHistory) → IsHistory before.session.catalogue (history ++ more) → KeepsHistory text history before now old new → KeepsHistory text (history ++ more) before now old new
keeps-longer text history more before now old new executes keeps = record {
  executes = executes;
  moments = weaken_run (MayLeave text before.session.catalogue history before) (MayLeave text before.session.catalogue (history ++ more) before)
      (λ i s. stands-longer text before.session.catalogue history more (durable_of before) (saved_of before) i executes s) old new keeps.moments;
  end = λ images are. stands-longer text before.session.catalogue history more (durable_of now) (saved_of now) images executes (keeps.end images are);
}

pub keeps-then : (text : List ℕ) (history : List Txn) (a b c : EngineParts) (x y z : Devices DiskHistory) → b.session.catalogue ≡ a.session.catalogue → durable_of a ≤ durable_of b → saved_of a ≤ saved_of b
    → KeepsHistory text history a b x y → KeepsHistory text history b c y z → KeepsHistory text history a c x z
keeps-then text history a b c x y z same durable saved first second =
    let moments : RunLeaves (MayLeave text a.session.catalogue history b) y z = subst (λ (cat : CatalogueState). RunLeaves (MayLeave text cat history b) y z) same second.moments in
    record {
      executes = first.executes;
      moments = run_then (MayLeave text a.session.catalogue history a) x y z first.moments
          (weaken_run (MayLeave text a.session.catalogue history b) (MayLeave text a.session.catalogue history a)
          (λ i s. stands-less text a.session.catalogue history (durable_of b) (saved_of b) (durable_of a) (saved_of a) i durable saved s) y z moments);
      end = subst (λ (cat : CatalogueState). AllLeave (MayLeave text cat history c) z) same second.end;
    }
